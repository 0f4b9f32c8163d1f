-- Demand 3 of the call for certifying, from the library's. Assumes nothing.
use Rattle.std.proofs.Common.{refl, List, ℕ, zero, suc, ◌≤◌, arith, Result, Ok, Err}
use Rattle.training_file.specs.declared.refusal.Refusal.{Refusal}
use Rattle.training_file.specs.Refusal.{certifying_refuses, number_of}
use Rattle.training_file.proofs.Laws.Refusal.{number_some}
use Rattle.reading.specs.Reading.{Reading, refused, accepted, reading}
use Rattle.thresholds.specs.declared.extremes.Thresholds.{Thresholds}
use Rattle.certifying.specs.Certify.{CertifiedDistance, certifying}
use Rattle.certifying.proofs.Laws.Certify.{certified_distance}
use Rattle.lookahead_c.specs.Refusals.{RefusesWith}
use Rattle.lookahead_c.proofs.Laws.Refusals.{certify_refusals}
use Rattle.lookahead_c.specs.Certifying.{AnsweredDistance, SeenDistance, certify_seen}

pub seen_distance : (file a : List ℕ) (before : Thresholds) → SeenDistance (reading file) a (certify_seen (certifying file a) before)
seen_distance file a before = seen (reading file) (certifying file a) (certified_distance file a) (certify_refusals file a)
  where
    seen : (r : Reading) (answer : Result Thresholds Refusal) → CertifiedDistance r a answer → RefusesWith certifying_refuses answer
        → SeenDistance r a (certify_seen answer before)
    seen (refused why) answer d t = tt
    seen (accepted p order items) (Ok found) d t = d
    seen (accepted p order items) (Err why) d t = by (number_of why) (number_some certifying_refuses why refl t)
      where
        by : (n : ℕ) → 1 ≤ n → AnsweredDistance p items a n before
        by zero h = absurd (omega arith)
        by (suc n) h = tt
