-- `smo::run::run` meets its contract. The loop's invariant: the steps taken so far, and the run from the present multipliers with what is
-- left of the limit, come to the whole run's outcome; the lists are in the state of a step. Assumes nothing.
use mathlib.Core.List.{List}
use mathlib.Core.Path.{◌≡◌}
use Prim.Native.Nat.{ℕ, ◌-◌}
use lib.IntN.{ℤ}
use lib.ListN.{length}
use Rattle.integers.specs.Written.{written}
use Rattle.dual_problem.specs.declared.problem.FileProblem.{FileProblem}
use Rattle.dual_problem.specs.Problem.{gradient as gradient_of, at}
use Rattle.dual_problem.specs.Given.{count_in, problem_in}
use Rattle.working_pair.specs.State.{State}
use Rattle.smo.specs.Run.{run as run_of}
use Rattle.smo.specs.Run.Meaning.{more_steps}
use Rattle.smo.proofs.run.run.Given as goal

pub record Running (f : FileProblem) (limit : ℕ) (a₀ : List ℕ) (g₀ : List ℤ) (a : List ℕ) (g : List ℤ) (k : ℕ) : Type 0 where
  pub state : State f a g
  pub so_far : run_of (problem_in f) f.parameters.tolerance limit a₀ ≡ more_steps k (run_of (problem_in f) f.parameters.tolerance (limit - k) a)
  pub long : length a ≡ length a₀
  pub filled : g ≡ written (count_in f) (gradient_of (problem_in f) (at a)) g₀

abbrev pub invariant-loop-steps : goal.invariant-loop-steps
invariant-loop-steps l = Running l.problem l.limit l.initial.multipliers l.initial.gradient l.multipliers l.gradient l.steps
