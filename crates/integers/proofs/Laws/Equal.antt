-- Laws of the test whether two integers are equal. Assumes nothing.
use mathlib.Core.Path.{◌≡◌, refl, ap, ◌∙◌, sym}
use mathlib.Core.Bool.{true}
use borrow.Author.Tests.{eq-eqb, eqb-true}
use lib.IntN.{ℤ, pos, negsuc}
use Rattle.integers.specs.Equal.{equal}
use Rattle.integers.proofs.Laws.Truth.{clash}

equal_self : (x : ℤ) → equal x x ≡ true
equal_self (pos n) = eq-eqb n n refl
equal_self (negsuc n) = eq-eqb n n refl

pub equal_same : (x z : ℤ) → x ≡ z → equal x z ≡ true
equal_same x z e = ap (equal x) (sym e) ∙ equal_self x

pub equal_is : (x z : ℤ) → equal x z ≡ true → x ≡ z
equal_is (pos m) (pos n) h = ap pos (eqb-true m n h)
equal_is (pos m) (negsuc n) h = clash h refl
equal_is (negsuc m) (pos n) h = clash h refl
equal_is (negsuc m) (negsuc n) h = ap negsuc (eqb-true m n h)
