-- Training (document 01, "The step" and refusal 6; demands 2 and 3): what the call answers, what it leaves in the lent lists, and what may
-- be relied on. Assumes nothing.
use Rattle.std.specs.Prelude.{◌≡◌, ◌↔◌, cond, ◌&&◌, List, ℕ, ◌≤◌, leb, ℤ, length, take, Result, Ok, Err}
use Rattle.integers.specs.Written.{written}
use Rattle.training_file.specs.declared.parameters.Parameters.{Parameters}
use Rattle.training_file.specs.declared.item.Item.{Item}
use Rattle.training_file.specs.declared.refusal.Refusal.{Refusal}
use Rattle.training_file.specs.declared.refusal.Refusal.TheVariants as refusal
use Rattle.reading.specs.Reading.{Reading, refused, accepted, reading}
use Rattle.reading.specs.Calls.{file_first}
use Rattle.dual_problem.specs.Problem.{BoundedDistance, Problem, gradient, problem, at}
use Rattle.dual_problem.specs.declared.problem.FileProblem.{FileProblem}
use Rattle.dual_problem.specs.Given.{count_in, problem_in}
use Rattle.working_pair.specs.Move.{NoMoveLowers}
use Rattle.smo.specs.declared.ending.Ending.TheVariants.{Stuck}
use Rattle.smo.specs.declared.run.Trained.{Trained}
use Rattle.smo.specs.Run.{Outcome, run_from_zeros}
use Rattle.smo.specs.Run.Meaning.{GapPasses, EndingMeans}
use Rattle.smo.specs.Answers.{RunLeft, left_by, trained_of}

-- the answer, and both lent lists afterwards
pub record TrainingLeft : Type 0 where
  pub answer : Result Trained Refusal
  pub multipliers : List ℕ
  pub gradient : List ℤ

-- on a refusal "every lent list keeps its contents"
abbrev pub unchanged : Refusal → List ℕ → List ℤ → TrainingLeft
unchanged why a g = record { answer = Err why; multipliers = a; gradient = g }

-- "The first n places of a lent list of multipliers and of a lent list of G hold their final values; later places keep theirs."
abbrev pub ended_with : Problem → Outcome → List ℕ → List ℤ → TrainingLeft
ended_with P o a g =
    record {
      answer = Ok (trained_of P o);
      multipliers = written P.count (at o.multipliers) a;
      gradient = written P.count (gradient P (at o.multipliers)) g;
    }

-- "6: training, a lent list shorter than n"
abbrev pub train_items : Parameters → List Item → List ℕ → List ℤ → TrainingLeft
train_items p items a g =
    cond (leb (length items) (length a) && leb (length items) (length g))
    (ended_with (problem p items) (run_from_zeros (problem p items) p.tolerance p.budget) a g)
    (unchanged refusal.ListLength a g)

-- any file, with the lists as they are lent: refusals 1 to 5 and 16 are the file's
abbrev pub train_file : List ℕ → List ℕ → List ℤ → TrainingLeft
train_file file a g = file_first (λ why. unchanged why a g) (λ p order items. train_items p items a g) (reading file)

-- for the code: what a run leaves on the items of a file that was read, with the outcome's multipliers in the first n places of their list
abbrev pub train_from : FileProblem → List ℕ → List ℤ → RunLeft
train_from f a g =
    let o = run_from_zeros (problem_in f) f.parameters.tolerance f.parameters.budget in
    left_by (problem_in f) (count_in f) o (written (count_in f) (at o.multipliers) a) g

-- Demand 3, of the result and the multipliers left: they are feasible and no others, on this grid or on a finer one, beat them by more
-- than the bound with the thresholds answered; each ending means what document 01 says; and training is stuck exactly when the gap
-- passes twice the tolerance and no move of two multipliers lowers the objective
pub record ResultQuality (p : Parameters) (P : Problem) (result : Trained) (a : List ℕ) : Type 0 where
  pub bounded : BoundedDistance P result.lower result.upper (at a)
  pub in_budget : result.steps ≤ p.budget
  pub means : EndingMeans P p.tolerance p.budget result.steps result.lower result.upper a result.ending
  pub stuck_exactly : (result.ending ≡ Stuck) ↔ (GapPasses p.tolerance result.lower result.upper × NoMoveLowers P (at a))

-- the same of the answer to any file, and of the lent list as training leaves it
abbrev pub TrainingQuality : Reading → Result Trained Refusal → List ℕ → Type 0
TrainingQuality (refused why) answer left = Unit {0}
TrainingQuality (accepted p order items) (Err why) left = Unit {0}
TrainingQuality (accepted p order items) (Ok result) left = ResultQuality p (problem p items) result (take (length items) left)
