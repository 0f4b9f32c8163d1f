-- `dual_problem::gradient::fill_gradient` meets its contract. The loop's invariant: G is written at the first i places. Assumes nothing.
use Rattle.std.proofs.Common.{◌≡◌}
use Rattle.integers.specs.Written.{written}
use Rattle.dual_problem.specs.Problem.{gradient as gradient_of, at}
use Rattle.dual_problem.specs.Given.{problem_in}
use Rattle.dual_problem.proofs.gradient.fill_gradient.Given as goal

abbrev pub invariant-loop-i : goal.invariant-loop-i
invariant-loop-i l = l.gradient ≡ written l.i (gradient_of (problem_in l.problem) (at l.multipliers)) l.initial.gradient
