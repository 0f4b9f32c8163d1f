-- What the code of the run answers, and what it leaves in both lists. Assumes nothing.
use Rattle.std.specs.Prelude.{List, ℕ, ℤ}
use Rattle.integers.specs.Written.{written}
use Rattle.dual_problem.specs.Problem.{Problem, b_up, b_low, gradient, at}
use Rattle.dual_problem.specs.declared.problem.FileProblem.{FileProblem}
use Rattle.dual_problem.specs.Given.{count_in, problem_in}
use Rattle.thresholds.specs.declared.extremes.Extremes.{Extremes}
use Rattle.thresholds.specs.Extremes.{best_value}
use Rattle.smo.specs.declared.ending.Ending.{Ending}
use Rattle.smo.specs.declared.run.Trained.{Trained}
use Rattle.smo.specs.Run.{Outcome, run}

-- "A trained result is the ending, steps, b_low and b_up.": from what was found, and from an outcome
abbrev pub trained_with : Ending → ℕ → Extremes → Trained
trained_with ending steps found = record { ending = ending; steps = steps; lower = best_value found.low; upper = best_value found.up }

abbrev pub trained_of : Problem → Outcome → Trained
trained_of P o = record { ending = o.ending; steps = o.steps; lower = b_low P (at o.multipliers); upper = b_up P (at o.multipliers) }

-- what a run leaves: its result, and both lists
pub record RunLeft : Type 0 where
  pub trained : Trained
  pub multipliers : List ℕ
  pub gradient : List ℤ

-- with an outcome, a list of multipliers, and G in the first n places of the other list
abbrev pub left_by : Problem → ℕ → Outcome → List ℕ → List ℤ → RunLeft
left_by P n o a g = record { trained = trained_of P o; multipliers = a; gradient = written n (gradient P (at o.multipliers)) g }

-- where the outcome's multipliers are the list
abbrev pub left_whole : Problem → ℕ → Outcome → List ℤ → RunLeft
left_whole P n o g = left_by P n o o.multipliers g

-- the run on the items of a file, from the multipliers a
abbrev pub run_from : FileProblem → ℕ → List ℕ → List ℤ → RunLeft
run_from f limit a g = left_whole (problem_in f) (count_in f) (run (problem_in f) f.parameters.tolerance limit a) g
