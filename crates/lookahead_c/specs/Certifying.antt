-- What a call for certifying answers in C, by what the library answers. Assumes nothing.
use Rattle.std.specs.Prelude.{List, ℕ, zero, suc, Result, Ok, Err}
use Rattle.training_file.specs.declared.parameters.Parameters.{Parameters}
use Rattle.training_file.specs.declared.item.Item.{Item}
use Rattle.training_file.specs.declared.refusal.Refusal.{Refusal}
use Rattle.reading.specs.Reading.{Reading, refused, accepted}
use Rattle.dual_problem.specs.Problem.{BoundedDistance, problem, at}
use Rattle.thresholds.specs.declared.extremes.Thresholds.{Thresholds}
use Rattle.lookahead_c.specs.declared.refusal.RefusalNumbers.{RefusalNumbers}
use Rattle.lookahead_c.specs.Numbering.{refusal_answered}

-- both lent numbers after the call, by those before it: a refusal changes neither
abbrev pub certify_found : Result Thresholds Refusal → Thresholds → Thresholds
certify_found (Err why) before = before
certify_found (Ok thresholds) before = thresholds

-- all that the caller sees after the call: the refusal answered, and both lent numbers
pub record CertifySeen : Type 0 where
  pub refusal : RefusalNumbers
  pub found : Thresholds

abbrev pub certify_seen : Result Thresholds Refusal → Thresholds → CertifySeen
certify_seen answer before = record { refusal = refusal_answered answer; found = certify_found answer before }

-- Demand 3, of the multipliers handed in and of what the caller sees after an answer of number 0
abbrev pub AnsweredDistance : Parameters → List Item → List ℕ → ℕ → Thresholds → Type 0
AnsweredDistance p items a zero found = BoundedDistance (problem p items) found.lower found.upper (at a)
AnsweredDistance p items a (suc number) found = Unit {0}

abbrev pub SeenDistance : Reading → List ℕ → CertifySeen → Type 0
SeenDistance (refused why) a seen = Unit {0}
SeenDistance (accepted p order items) a seen = AnsweredDistance p items a seen.refusal.number seen.found
