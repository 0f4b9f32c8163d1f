-- What a call for training answers in C, by what the library answers. Assumes nothing.
use Rattle.std.specs.Prelude.{◌≡◌, List, ℕ, zero, suc, ℤ, length, take, Result, Ok, Err}
use Rattle.training_file.specs.declared.parameters.Parameters.{Parameters}
use Rattle.training_file.specs.declared.item.Item.{Item}
use Rattle.training_file.specs.declared.refusal.Refusal.{Refusal}
use Rattle.reading.specs.Reading.{Reading, refused, accepted}
use Rattle.dual_problem.specs.Problem.{problem}
use Rattle.smo.specs.declared.ending.Ending.{Ending}
use Rattle.smo.specs.declared.run.Trained.{Trained}
use Rattle.training.specs.Train.{ResultQuality, TrainingLeft}
use Rattle.lookahead_c.specs.declared.refusal.RefusalNumbers.{RefusalNumbers}
use Rattle.lookahead_c.specs.Numbering.{ending_number, refusal_answered}

-- the single numbers that the caller lends
pub record TrainNumbers : Type 0 where
  pub ending : ℕ
  pub steps : ℕ
  pub lower : ℤ
  pub upper : ℤ

-- those numbers after the call, by those before it: a refusal changes none
abbrev pub train_found : Result Trained Refusal → TrainNumbers → TrainNumbers
train_found (Err why) before = before
train_found (Ok result) before = record { ending = ending_number result.ending; steps = result.steps; lower = result.lower; upper = result.upper }

-- all that the caller sees after the call: the refusal answered, both lists and the single numbers
pub record TrainSeen : Type 0 where
  pub refusal : RefusalNumbers
  pub multipliers : List ℕ
  pub gradient : List ℤ
  pub found : TrainNumbers

abbrev pub train_seen : TrainingLeft → TrainNumbers → TrainSeen
train_seen left before =
    record {
      refusal = refusal_answered left.answer;
      multipliers = left.multipliers;
      gradient = left.gradient;
      found = train_found left.answer before;
    }

-- the quality of a training that was answered, by the number answered
abbrev pub AnsweredQuality : Parameters → List Item → ℕ → TrainNumbers → List ℕ → Type 0
AnsweredQuality p items zero found left =
    (ending : Ending)
    × (found.ending ≡ ending_number ending)
    × ResultQuality p (problem p items) (record { ending = ending; steps = found.steps; lower = found.lower; upper = found.upper }) (take (length items) left)
AnsweredQuality p items (suc number) found left = Unit {0}

-- Demand 3, of what the caller sees after an answer of number 0: the numbers written, and the multipliers in the first n places
abbrev pub SeenQuality : Reading → TrainSeen → Type 0
SeenQuality (refused why) seen = Unit {0}
SeenQuality (accepted p order items) seen = AnsweredQuality p items seen.refusal.number seen.found seen.multipliers
