-- A number of a signed width that the code tests against 0: what it takes to cast it to the unsigned width, and below 0 to cast −1 less it.
-- Assumes nothing.
use mathlib.Core.Bool.{true, false, cond}
use mathlib.Core.Path.{◌≡◌, refl, sym, ◌∙◌, ap, subst}
use Prim.Native.Nat.{ℕ, suc, ◌-◌, ◌^◌, ◌≤◌, ◌<◌}
use native.Mathlib.Nat.{le_trans}
use native.Mathlib.Omega.{arith}
use borrow.Author.Tests.{le-leb, lt-leb}
use lib.Dec.{T, lit≤}
use lib.IntN.{ℤ, pos, negsuc, nat_abs, ◌-ℤ◌}
use lib.Signed.{le_z, mag, non_neg}
use mir.Facts.{to_z-of_z}
use mir.Syntax.{Width, w8, w16, w32, w64, w128}
use mir.Val.{Fits, SFits, bits, hbits, to_z, of_z}
use Rattle.integers.proofs.Laws.Truth.{clash}
use Rattle.integers.proofs.Laws.Bounds.{fits_width, reads_back}

-- what is within half of a width is within the width
half_width : (w : Width) → 2 ^ hbits w ≤ 2 ^ bits w
half_width w8 = lit≤ tt
half_width w16 = lit≤ tt
half_width w32 = lit≤ tt
half_width w64 = lit≤ tt
half_width w128 = lit≤ tt

half_fits : (w : Width) (n : ℕ) → n < 2 ^ hbits w → Fits w n
half_fits w n h = record { fits = le_trans h (half_width w) }

-- a number that isn't below 0 is its size
not_below_size : (z : ℤ) → le_z (pos 0) z ≡ true → z ≡ pos (nat_abs z)
not_below_size (pos n) h = refl
not_below_size (negsuc k) h = clash h refl

-- −1 − k is k less than −1, and `mag` of it is k
minus_one_less : (k : ℕ) → negsuc 0 -ℤ negsuc k ≡ pos k
minus_one_less k = ap (λ b. cond b (negsuc (1 - suc (suc k))) (pos (suc k - 1))) (lt-leb (suc (suc k)) 1 (omega arith)) ∙ ap pos (omega arith)

below_less_one : (z : ℤ) → le_z (pos 0) z ≡ false → negsuc 0 -ℤ z ≡ pos (mag z)
below_less_one (pos n) h = clash (le-leb 0 n (omega arith)) h
below_less_one (negsuc k) h = minus_one_less k

module _ (w : Width) where
  -- what a cast to the unsigned width asks
  abbrev pub Casts : ℤ → Type 0
  Casts z = T (non_neg z) × Fits w (nat_abs z)

  casts_pos : (n : ℕ) → n < 2 ^ hbits w → Casts (pos n)
  casts_pos n h = (tt, half_fits w n h)

  module _ (z : ℤ) (fits : SFits w z) where
    reads : to_z w (of_z w z) ≡ z
    reads = to_z-of_z {w = w} {z = z} fits

    -- where the test says that it isn't below 0
    module _ (plus : le_z (pos 0) (to_z w (of_z w z)) ≡ true) where
      pub not_below : le_z (pos 0) z ≡ true
      not_below = ap (le_z (pos 0)) (sym reads) ∙ plus

      pub not_below_reads : to_z w (of_z w z) ≡ pos (nat_abs z)
      not_below_reads = reads ∙ not_below_size z not_below

      pub not_below_casts : Casts (to_z w (of_z w z))
      not_below_casts =
          subst Casts (sym not_below_reads) (casts_pos (nat_abs z) (subst (SFits w) (not_below_size z not_below) fits).sfits)

    -- where it says that it is below 0
    module _ (minus : le_z (pos 0) (to_z w (of_z w z)) ≡ false) where
      pub below : le_z (pos 0) z ≡ false
      below = ap (le_z (pos 0)) (sym reads) ∙ minus

      less_one : negsuc 0 -ℤ to_z w (of_z w z) ≡ pos (mag z)
      less_one = ap (λ y. negsuc 0 -ℤ y) reads ∙ below_less_one z below

      pub less_one_fits : SFits w (negsuc 0 -ℤ to_z w (of_z w z))
      less_one_fits = fits_width w less_one fits.sfits

      pub less_one_reads : to_z w (of_z w (negsuc 0 -ℤ to_z w (of_z w z))) ≡ pos (mag z)
      less_one_reads = reads_back w less_one fits.sfits

      pub less_one_casts : Casts (to_z w (of_z w (negsuc 0 -ℤ to_z w (of_z w z))))
      less_one_casts = subst Casts (sym less_one_reads) (casts_pos (mag z) fits.sfits)
