-- Laws of the test for 0. Assumes nothing.
use mathlib.Core.Path.{◌≡◌, sym, ◌∙◌, ap}
use mathlib.Core.Bool.{true, false}
use Prim.Native.Nat.{ℕ}
use native.Mathlib.Omega.{arith}
use borrow.Author.Tests.{eqb-true}
use lib.IntN.{ℤ, pos, negsuc}
use lib.Pow.{pow_pos}
use mir.Facts.{to_z-of_z, to_z_pos}
use mir.Syntax.{Width}
use mir.Val.{SFits, hbits, to_z, of_z}
use Rattle.integers.proofs.Laws.Truth.{not_true_false}
use Rattle.integers.specs.Zero.{is_zero}

pub is_zero_true : (z : ℤ) → is_zero z ≡ true → z ≡ pos 0
is_zero_true (pos n) e = ap pos (eqb-true n 0 e)
is_zero_true (negsuc n) e = let q : ◌≡◌ {A = ℕ} 0 1 = cc in absurd (omega arith)

-- a signed number is 0 exactly where its bits are
pub bits_zero : (w : Width) (z : ℤ) → SFits w z → of_z w z ≡ 0 → is_zero z ≡ true
bits_zero w z fits e = ap is_zero (sym (to_z-of_z fits) ∙ ap (to_z w) e ∙ to_z_pos w (pow_pos (hbits w)))

pub bits_nonzero : (w : Width) (z : ℤ) → (of_z w z ≡ 0 → ⊥) → is_zero z ≡ false
bits_nonzero w z h = not_true_false (is_zero z) (λ e. h (ap (of_z w) (is_zero_true z e)))
