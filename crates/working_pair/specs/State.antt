-- What the code of a step works on: the problem of a read file, feasible multipliers, and a list that holds G. Assumes nothing.
use Rattle.std.specs.Prelude.{◌≡◌, List, ℕ, ◌≤◌, ◌<◌, ℤ, pos, length, get_or}
use Rattle.dual_problem.specs.declared.problem.FileProblem.{FileProblem}
use Rattle.dual_problem.specs.Problem.{Feasible, gradient, at}
use Rattle.dual_problem.specs.Given.{MultipliersFit, count_in, problem_in}

pub record State (f : FileProblem) (a : List ℕ) (g : List ℤ) : Type 0 where
  pub fit : MultipliersFit f a
  pub feasible : Feasible (problem_in f) (at a)
  pub filled : count_in f ≤ length g
  pub kept : (i : ℕ) → i < count_in f → get_or g i (pos 0) ≡ gradient (problem_in f) (at a) i
