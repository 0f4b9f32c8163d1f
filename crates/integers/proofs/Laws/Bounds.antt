-- Bounds of the form `nat_abs z ≤ N`, inside out: of a sum, a difference, a negation, a product, a sum over i < n. Two laws take such a
-- bound to a signed width w: the number fits it, and its bits read back are the number. Assumes nothing.
pub mod Signed
use mathlib.Core.Path.{◌≡◌, refl, sym, ◌∙◌, ap, subst}
use Prim.Native.Nat.{ℕ, zero, suc, ◌+◌, ◌*◌, ◌^◌, ◌≤◌, ◌<◌}
use native.Mathlib.Nat.{le_refl, mul-le-mul}
use native.Mathlib.Omega.{arith}
use lib.IntN.{ℤ, pos, negsuc, neg_ℤ, nat_abs, ◌+ℤ◌, ◌-ℤ◌, ◌*ℤ◌}
use lib.Signed.{mag}
use mir.Syntax.{Width}
use mir.Val.{SFits, hbits, to_z, of_z}
use mir.Facts.{to_z-of_z}
use Rattle.integers.proofs.Laws.Linear.{+ℤ_parts, neg_ℤ_parts, nat_abs_parts, one_part}
use Rattle.integers.specs.Sum.{sum}
pub use Rattle.integers.proofs.Laws.Bounds.Signed.{mag-nat_abs, fits_width}

-- ---- absolute values
pub nat_abs-neg_ℤ : (a : ℤ) → nat_abs (neg_ℤ a) ≡ nat_abs a
nat_abs-neg_ℤ a = omega (arith, nat_abs_parts a, nat_abs_parts (neg_ℤ a), neg_ℤ_parts a)

pub nat_abs-+ℤ : (a b : ℤ) → nat_abs (a +ℤ b) ≤ nat_abs a + nat_abs b
nat_abs-+ℤ a b = omega (arith, nat_abs_parts (a +ℤ b), nat_abs_parts a, nat_abs_parts b, +ℤ_parts a b, one_part (a +ℤ b))

pub nat_abs-*ℤ : (a b : ℤ) → nat_abs (a *ℤ b) ≡ nat_abs a * nat_abs b
nat_abs-*ℤ (pos a) (pos b) = refl
nat_abs-*ℤ (pos a) (negsuc b) = nat_abs-neg_ℤ (pos (a * suc b))
nat_abs-*ℤ (negsuc a) (pos b) = nat_abs-neg_ℤ (pos (suc a * b))
nat_abs-*ℤ (negsuc a) (negsuc b) = refl

-- ---- bounds
pub neg_ℤ_bound : (a : ℤ) {A : ℕ} → nat_abs a ≤ A → nat_abs (neg_ℤ a) ≤ A
neg_ℤ_bound a h = omega (arith, nat_abs-neg_ℤ a)

pub +ℤ_bound : (a b : ℤ) {A B : ℕ} → nat_abs a ≤ A → nat_abs b ≤ B → nat_abs (a +ℤ b) ≤ A + B
+ℤ_bound a b h k = omega (arith, nat_abs-+ℤ a b)

pub -ℤ-bound : (a b : ℤ) {A B : ℕ} → nat_abs a ≤ A → nat_abs b ≤ B → nat_abs (a -ℤ b) ≤ A + B
-ℤ-bound a b h k = +ℤ_bound a (neg_ℤ b) h (neg_ℤ_bound b k)

pub *ℤ_bound : (a b : ℤ) {A B : ℕ} → nat_abs a ≤ A → nat_abs b ≤ B → nat_abs (a *ℤ b) ≤ A * B
*ℤ_bound a b h k = omega (arith, nat_abs-*ℤ a b, mul-le-mul h k)

pub sum_bound : (n : ℕ) (f : ℕ → ℤ) {B : ℕ} → ((i : ℕ) → i < n → nat_abs (f i) ≤ B) → nat_abs (sum n f) ≤ n * B
unfolding sum
sum_bound zero f h = omega arith
sum_bound (suc n) f {B} h = omega (arith, +ℤ_bound (sum n f) (f n) (sum_bound n f (λ i l. h i (omega arith))) (h n (le_refl (suc n))))

-- ---- a signed width w, for a number m that is known to be z
pub reads_back : (w : Width) {m z : ℤ} → m ≡ z → nat_abs z < 2 ^ hbits w → to_z w (of_z w m) ≡ z
reads_back w {m} {z} e h = to_z-of_z {w = w} {z = m} (fits_width w e h) ∙ e

-- bits that hold z read as z
pub reads_as : (w : Width) (z : ℤ) {s : ℕ} → s ≡ of_z w z → nat_abs z < 2 ^ hbits w → to_z w s ≡ z
reads_as w z e h = ap (to_z w) e ∙ reads_back w refl h

-- the range that the checker gives of an element that was read
pub reads_element : (w : Width) (z : ℤ) → mag z < 2 ^ hbits w → to_z w (of_z w z) ≡ z
reads_element w z h = to_z-of_z {w = w} {z = z} (record { sfits = h })
