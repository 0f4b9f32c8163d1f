-- `dual_problem::gradient::weighed_sum` meets its contract. The loop's invariant: `sum` holds what the first j items add. Assumes nothing.
use Rattle.std.proofs.Common.{◌*◌}
use Rattle.integers.specs.Sum.{sum}
use Rattle.dual_problem.specs.Size.{term_most}
use Rattle.dual_problem.specs.Problem.{at}
use Rattle.dual_problem.specs.FileProblem.{added}
use Rattle.dual_problem.proofs.Laws.Results.{IsWithin}
use Rattle.dual_problem.proofs.gradient.weighed_sum.Given as goal

abbrev pub invariant-loop-j : goal.invariant-loop-j
invariant-loop-j l = IsWithin l.sum (sum l.j (λ j. added l.problem.file.now l.problem.parameters l.x.features (at l.multipliers j) j)) (l.j * term_most)
