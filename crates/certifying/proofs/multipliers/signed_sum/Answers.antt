-- `certifying::multipliers::signed_sum` meets its contract. Assumes nothing.
use Rattle.std.proofs.Common.{arith, refl, ap, ◌∙◌, w64, pos, ◌*ℤ◌}
use Rattle.integers.specs.Sum.{sum}
use Rattle.dual_problem.specs.Problem.{sign, at}
use Rattle.dual_problem.proofs.Laws.Results.{sum_step}
use Rattle.certifying.proofs.multipliers.signed_sum.Goals as goal

pub loop-i-init : goal.loop-i-init
unfolding sum
loop-i-init c = record { value = refl; size = omega arith }

pub loop-i-preserved : goal.loop-i-preserved
loop-i-preserved c =
    let i = c.loop-i.i in
    sum_step w64 _ i c.loop-i.invariant
    (record {
      value = c.with_sign-sum.ensures.value ∙ ap (λ label. pos (at c.args.multipliers.now i) *ℤ sign label) c.label.ensures;
      size = omega (arith, c.with_sign-sum.ensures.size, c.type_inv.multipliers i);
    })
    (omega (arith, c.args.problem.now.listed.few))
