-- `dual_problem::kernel::feature_sum` meets its contract. Assumes nothing.
use Rattle.std.proofs.Common.{arith, rules, refl, ◌∙◌, w8, w32, pos, get_or}
use Rattle.integers.specs.Sum.{sum}
use Rattle.integers.proofs.Laws.Bounds.{reads_element}
use Rattle.dual_problem.specs.Kernel.{summand}
use Rattle.dual_problem.proofs.Laws.Results.{sum_step}
use Rattle.dual_problem.proofs.kernel.feature_sum.Goals as goal

pub loop-p-init : goal.loop-p-init
unfolding sum
loop-p-init c = record { value = refl; size = omega arith }

pub loop-p-preserved : goal.loop-p-preserved
loop-p-preserved c =
    let x = get_or c.args.xs.now c.loop-p.p (pos 0) in
    let z = get_or c.args.zs.now c.loop-p.p (pos 0) in
    sum_step w32 _ c.loop-p.p c.loop-p.invariant
    (record {
      value = c.summand-sum.ensures.value ∙ (λ i. summand c.args.kernel (reads_element w8 x (search rules) i) (reads_element w8 z (search rules) i));
      size = c.summand-sum.ensures.size;
    })
    (omega arith)
