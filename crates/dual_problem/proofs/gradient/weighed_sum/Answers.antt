-- `dual_problem::gradient::weighed_sum` meets its contract. Assumes nothing.
use Rattle.std.proofs.Common.{arith, refl, w64}
use Rattle.integers.specs.Sum.{sum}
use Rattle.dual_problem.proofs.Laws.Results.{sum_step}
use Rattle.dual_problem.proofs.gradient.weighed_sum.Goals as goal

pub loop-j-init : goal.loop-j-init
unfolding sum
loop-j-init c = record { value = refl; size = omega arith }

pub loop-j-preserved : goal.loop-j-preserved
loop-j-preserved c =
    sum_step w64 _ c.loop-j.j c.loop-j.invariant
    (record { value = c.addend-sum.ensures.value; size = c.addend-sum.ensures.size })
    (omega (arith, c.args.problem.now.listed.few))
