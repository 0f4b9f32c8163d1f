-- `smo_step::step::shift` meets its contract: difference, product and sum read back as themselves, since each is bounded by its parts'
-- sizes. Assumes nothing.
use mathlib.Core.Path.{◌≡◌, refl, sym, subst}
use Prim.Native.Nat.{◌+◌, ◌*◌, ◌≤◌}
use native.Mathlib.Omega.{arith}
use lib.IntN.{ℤ, pos, nat_abs, ◌+ℤ◌, ◌-ℤ◌, ◌*ℤ◌}
use mir.Syntax.{w64}
use mir.Val.{to_z, of_z}
use Rattle.integers.proofs.Laws.Bounds.{+ℤ_bound, -ℤ-bound, *ℤ_bound, fits_width, reads_back}
use Rattle.training_file.specs.Parameters.{ceiling_most}
use Rattle.dual_problem.specs.Size.{gradient_most, kernel_most, term_most}
use Rattle.smo_step.proofs.step.shift.Goals as goal

-- what the machine makes of each part, inside out, and how large it can be
module _ (c : goal.After-from) where
  difference : ℤ
  difference = c.args.kernel_j -ℤ c.args.kernel_i

  difference_is : to_z w64 (of_z w64 c.args.kernel_j) -ℤ to_z w64 (of_z w64 c.args.kernel_i) ≡ difference
  unfolding difference
  difference_is = λ i. reads_back w64 {m = c.args.kernel_j} refl (omega (arith, c.requires.2)) i -ℤ reads_back w64 {m = c.args.kernel_i} refl (omega (arith, c.requires.3)) i

  difference_size : nat_abs difference ≤ 2 * kernel_most
  unfolding difference
  difference_size = -ℤ-bound c.args.kernel_j c.args.kernel_i c.requires.2 c.requires.3

  product : ℤ
  product = pos c.args.amount *ℤ difference

  product_is : to_z w64 (of_z w64 c.from.result) *ℤ to_z w64 (of_z w64 (to_z w64 (of_z w64 c.args.kernel_j) -ℤ to_z w64 (of_z w64 c.args.kernel_i))) ≡ product
  unfolding product
  product_is = λ i. reads_back w64 c.from.ensures (omega (arith, c.requires.1)) i *ℤ reads_back w64 difference_is (omega (arith, difference_size)) i

  product_size : nat_abs product ≤ ceiling_most * (2 * kernel_most)
  unfolding product
  product_size = *ℤ_bound (pos c.args.amount) difference {A = ceiling_most} {B = 2 * kernel_most} c.requires.1 difference_size

  total : ℤ
  total = c.args.value +ℤ product

  total_is : to_z w64 (of_z w64 c.args.value) +ℤ to_z w64 (of_z w64 (to_z w64 (of_z w64 c.from.result) *ℤ to_z w64 (of_z w64 (to_z w64 (of_z w64 c.args.kernel_j) -ℤ to_z w64 (of_z w64 c.args.kernel_i))))) ≡ total
  unfolding total
  total_is = λ i. reads_back w64 {m = c.args.value} refl (omega (arith, c.requires.0)) i +ℤ reads_back w64 product_is (omega (arith, product_size)) i

  total_size : nat_abs total ≤ gradient_most + 2 * term_most
  unfolding total
  total_size = +ℤ_bound c.args.value product c.requires.0 product_size

pub overflow_add-result : goal.overflow_add-result
overflow_add-result c = fits_width w64 (total_is c) (omega (arith, total_size c))

pub overflow_mul-result : goal.overflow_mul-result
overflow_mul-result c = fits_width w64 (product_is c) (omega (arith, product_size c))

pub returns : goal.returns
unfolding total product difference
returns c =
    let e = reads_back w64 (total_is c) (omega (arith, total_size c)) in
    record { value = e; size = subst (λ z. nat_abs z ≤ gradient_most + 2 * term_most) (sym e) (total_size c) }
