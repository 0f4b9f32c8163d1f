-- `certifying::multipliers::signed_sum` meets its contract. The loop's invariant: `sum` holds the sum over the first i multipliers,
-- each below 2 ^ 32. Assumes nothing.
use Rattle.std.proofs.Common.{◌*◌, ◌^◌, pos, ◌*ℤ◌}
use Rattle.integers.specs.Sum.{sum}
use Rattle.dual_problem.specs.Problem.{y, at}
use Rattle.dual_problem.specs.Given.{problem_in}
use Rattle.dual_problem.proofs.Laws.Results.{IsWithin}
use Rattle.certifying.proofs.multipliers.signed_sum.Given as goal

abbrev pub invariant-loop-i : goal.invariant-loop-i
invariant-loop-i l = IsWithin l.sum (sum l.i (λ i. pos (at l.multipliers i) *ℤ y (problem_in l.problem) i)) (l.i * 2 ^ 32)
