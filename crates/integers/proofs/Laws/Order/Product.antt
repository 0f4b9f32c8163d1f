-- That a product isn't negative where its factors aren't. Assumes nothing.
use Prim.Native.Nat.{ℕ, ◌*◌}
use native.Mathlib.Omega.{arith}
use lib.IntN.{ℤ, pos, negsuc, ◌*ℤ◌}
use lib.Signed.{◌≤ℤ◌}
use Rattle.integers.proofs.Laws.Linear.{integer}

pub pos_nonneg : (n : ℕ) → pos 0 ≤ℤ pos n
pos_nonneg n = omega (arith, integer)

pub *ℤ_nonneg : {a b : ℤ} → pos 0 ≤ℤ a → pos 0 ≤ℤ b → pos 0 ≤ℤ (a *ℤ b)
*ℤ_nonneg {a = pos a} {b = pos b} h k = pos_nonneg (a * b)
*ℤ_nonneg {a = pos a} {b = negsuc b} h k = absurd k.le
*ℤ_nonneg {a = negsuc a} {b} h k = absurd h.le
