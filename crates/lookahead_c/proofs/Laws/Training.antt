-- Demand 3 of the call for training, from the library's. Assumes nothing.
use Rattle.std.proofs.Common.{refl, List, ℕ, zero, suc, ◌≤◌, arith, ℤ, Result, Ok, Err}
use Rattle.training_file.specs.declared.refusal.Refusal.{Refusal}
use Rattle.training_file.specs.Refusal.{number_of, training_refuses}
use Rattle.training_file.proofs.Laws.Refusal.{number_some}
use Rattle.reading.specs.Reading.{Reading, refused, accepted, reading}
use Rattle.smo.specs.declared.run.Trained.{Trained}
use Rattle.training.specs.Train.{TrainingQuality, train_file}
use Rattle.training.proofs.Laws.Train.{training_quality}
use Rattle.lookahead_c.specs.Numbering.{ending_number, no_refusal}
use Rattle.lookahead_c.specs.Refusals.{RefusesWith}
use Rattle.lookahead_c.proofs.Laws.Refusals.{train_refusals}
use Rattle.lookahead_c.specs.Training.{AnsweredQuality, SeenQuality, TrainNumbers, train_seen}

-- what the caller sees of a training that ended
pub found_quality : (r : Reading) (result : Trained) (left : List ℕ) (g : List ℤ) → TrainingQuality r (Ok result) left
    → SeenQuality r
    (record {
      refusal = no_refusal;
      multipliers = left;
      gradient = g;
      found = record { ending = ending_number result.ending; steps = result.steps; lower = result.lower; upper = result.upper };
    })
found_quality (refused why) result left g q = tt
found_quality (accepted p order items) result left g q = (result.ending, refl, q)

pub seen_quality : (file a : List ℕ) (g : List ℤ) (before : TrainNumbers) → SeenQuality (reading file) (train_seen (train_file file a g) before)
seen_quality file a g before =
    seen (reading file) (train_file file a g).answer (train_file file a g).multipliers (training_quality file a g) (train_refusals file a g)
  where
    seen : (r : Reading) (answer : Result Trained Refusal) (left : List ℕ) → TrainingQuality r answer left → RefusesWith training_refuses answer
        → SeenQuality r (train_seen (record { answer = answer; multipliers = left; gradient = (train_file file a g).gradient }) before)
    seen r (Ok result) left q t = found_quality r result left _ q
    seen (refused why) (Err error) left q t = tt
    seen (accepted p order items) (Err why) left q t = by (number_of why) (number_some training_refuses why refl t)
      where
        by : (n : ℕ) → 1 ≤ n → AnsweredQuality p items n before left
        by zero h = absurd (omega arith)
        by (suc n) h = tt
