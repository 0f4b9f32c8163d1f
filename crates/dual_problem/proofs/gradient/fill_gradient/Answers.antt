-- `dual_problem::gradient::fill_gradient` meets its contract. Assumes nothing.
use Rattle.std.proofs.Common.{arith, refl, w64, add-one, set, subst, nat_abs, ◌≤◌}
use Rattle.integers.specs.Written.{written}
use Rattle.integers.proofs.Laws.Bounds.{reads_back}
use Rattle.dual_problem.specs.Size.{gradient_most}
use Rattle.dual_problem.proofs.gradient.fill_gradient.Goals as goal

pub loop-i-init : goal.loop-i-init
unfolding written
loop-i-init c = refl

pub loop-i-preserved : goal.loop-i-preserved
unfolding written
loop-i-preserved c =
    let e = reads_back w64 c.gradient_at.ensures.value (omega (arith, subst (λ z. nat_abs z ≤ gradient_most) c.gradient_at.ensures.value c.gradient_at.ensures.size)) in
    rw add-one (λ k. set (c.loop-i.invariant k) c.loop-i.i (e k))
