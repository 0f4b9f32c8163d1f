-- That a bounded number fits a signed width. Assumes nothing.
use mathlib.Core.Path.{◌≡◌, sym, subst}
use Prim.Native.Nat.{◌^◌, ◌≤◌, ◌<◌}
use native.Mathlib.Nat.{le_refl}
use native.Mathlib.Omega.{arith}
use lib.IntN.{ℤ, pos, negsuc, nat_abs}
use lib.Signed.{mag}
use mir.Syntax.{Width}
use mir.Val.{SFits, hbits}

pub mag-nat_abs : (z : ℤ) → mag z ≤ nat_abs z
mag-nat_abs (pos n) = le_refl n
mag-nat_abs (negsuc n) = omega arith

pub fits_width : (w : Width) {m z : ℤ} → m ≡ z → nat_abs z < 2 ^ hbits w → SFits w m
fits_width w {m} {z} e h = subst (SFits w) (sym e) (record { sfits = omega (arith, mag-nat_abs z) })
