-- `dual_problem::kernel::feature_sum` meets its contract. The loop's invariant: `sum` holds the sum over the first p features, which
-- is at most p times 128 × 128. Assumes nothing.
use Rattle.std.proofs.Common.{◌*◌}
use Rattle.training_file.specs.Layout.{signed_most}
use Rattle.dual_problem.specs.Kernel.{over_features, summand}
use Rattle.dual_problem.proofs.Laws.Results.{IsWithin}
use Rattle.dual_problem.proofs.kernel.feature_sum.Given as goal

abbrev pub invariant-loop-p : goal.invariant-loop-p
invariant-loop-p l = IsWithin l.sum (over_features (summand l.kernel) l.p l.xs l.zs) (l.p * (signed_most * signed_most))
