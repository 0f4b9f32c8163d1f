-- How omega reads ℤ. An integer z is pos_part z − neg_part z, of two natural numbers. The set `integer` turns each order or equation
-- of ℤ, in a hypothesis or in the goal, into one of those parts, and an equation for each sum, difference, negation or product that
-- occurs (`+ℤ_parts a b`) goes into omega's list: `omega (arith, integer, +ℤ_parts a b)`. Assumes nothing.
use mathlib.Core.Path.{◌≡◌, refl, sym, ◌∙◌, ap}
use mathlib.Core.Bool.{Bool, true, false, not, cond}
use Prim.Native.Nat.{ℕ, zero, suc, ◌+◌, ◌*◌, ◌-◌, ◌≤◌, ◌<◌, min}
use native.Mathlib.Omega.{arith}
use lib.Dec.{T, ltb, leb→le, le→leb, ltb→lt, lt→ltb, nltb→le}
use lib.IntN.{ℤ, pos, negsuc, neg_ℤ, nat_abs, sub_ℕ, ◌+ℤ◌, ◌-ℤ◌, ◌*ℤ◌}
use lib.Signed.{le_z, lt_z, ◌≤ℤ◌, ◌<ℤ◌}

-- ---- the two parts
abbrev pub pos_part : ℤ → ℕ
pos_part (pos n) = n
pos_part (negsuc n) = 0

abbrev pub neg_part : ℤ → ℕ
neg_part (pos n) = 0
neg_part (negsuc n) = suc n

-- ---- the order and the equality, by the parts
le_parts : (a b : ℤ) → T (le_z a b) → pos_part a + neg_part b ≤ pos_part b + neg_part a
le_parts (pos a) (pos b) t = omega (arith, leb→le a b t)
le_parts (pos a) (negsuc b) t = absurd t
le_parts (negsuc a) (pos b) t = omega arith
le_parts (negsuc a) (negsuc b) t = omega (arith, leb→le b a t)

parts_le : (a b : ℤ) → pos_part a + neg_part b ≤ pos_part b + neg_part a → T (le_z a b)
parts_le (pos a) (pos b) h = le→leb a b (omega arith)
parts_le (pos a) (negsuc b) h = omega arith
parts_le (negsuc a) (pos b) h = tt
parts_le (negsuc a) (negsuc b) h = le→leb b a (omega arith)

lt_parts : (a b : ℤ) → T (lt_z a b) → pos_part a + neg_part b < pos_part b + neg_part a
lt_parts (pos a) (pos b) t = omega (arith, ltb→lt a b t)
lt_parts (pos a) (negsuc b) t = absurd t
lt_parts (negsuc a) (pos b) t = omega arith
lt_parts (negsuc a) (negsuc b) t = omega (arith, ltb→lt b a t)

parts_lt : (a b : ℤ) → pos_part a + neg_part b < pos_part b + neg_part a → T (lt_z a b)
parts_lt (pos a) (pos b) h = lt→ltb a b (omega arith)
parts_lt (pos a) (negsuc b) h = omega arith
parts_lt (negsuc a) (pos b) h = tt
parts_lt (negsuc a) (negsuc b) h = lt→ltb b a (omega arith)

parts_eq : (a b : ℤ) → pos_part a + neg_part b ≡ pos_part b + neg_part a → a ≡ b
parts_eq (pos a) (pos b) h = ap pos (omega arith)
parts_eq (pos a) (negsuc b) h = absurd (omega arith)
parts_eq (negsuc a) (pos b) h = absurd (omega arith)
parts_eq (negsuc a) (negsuc b) h = ap negsuc (omega arith)

pub ≤ℤ_to_parts : {a b : ℤ} → a ≤ℤ b → pos_part a + neg_part b ≤ pos_part b + neg_part a
≤ℤ_to_parts {a} {b} h = le_parts a b h.le

pub ≤ℤ_from_parts : {a b : ℤ} → pos_part a + neg_part b ≤ pos_part b + neg_part a → a ≤ℤ b
≤ℤ_from_parts {a} {b} h = record { le = parts_le a b h }

pub <ℤ_to_parts : {a b : ℤ} → a <ℤ b → pos_part a + neg_part b < pos_part b + neg_part a
<ℤ_to_parts {a} {b} h = lt_parts a b h.lt

pub <ℤ_from_parts : {a b : ℤ} → pos_part a + neg_part b < pos_part b + neg_part a → a <ℤ b
<ℤ_from_parts {a} {b} h = record { lt = parts_lt a b h }

pub ≡_to_parts : {a b : ℤ} → a ≡ b → pos_part a + neg_part b ≡ pos_part b + neg_part a
≡_to_parts {a} {b} h = (λ i. pos_part (h i) + neg_part b) ∙ (λ i. pos_part b + neg_part (sym h i))

pub ≡_from_parts : {a b : ℤ} → pos_part a + neg_part b ≡ pos_part b + neg_part a → a ≡ b
≡_from_parts {a} {b} h = parts_eq a b h

pub ruleset integer = (≤ℤ_to_parts, ≤ℤ_from_parts, <ℤ_to_parts, <ℤ_from_parts, ≡_to_parts, ≡_from_parts)

-- ---- the parts of a sum, a negation, a difference, a product, an absolute value
cond_parts : (t : Bool) (x y : ℤ) (P : ℤ → Type 0) → (T t → P x) → (T (not t) → P y) → P (cond t x y)
cond_parts true x y P f g = f tt
cond_parts false x y P f g = g tt

sub_ℕ_parts : (a b : ℕ) → pos_part (sub_ℕ a b) + b ≡ neg_part (sub_ℕ a b) + a
sub_ℕ_parts a b = cond_parts (ltb a b) (negsuc (b - suc a)) (pos (a - b)) (λ z. pos_part z + b ≡ neg_part z + a) (λ t. below (ltb→lt a b t)) (λ t. above (nltb→le a b t))
  where
    below : a < b → 0 + b ≡ suc (b - suc a) + a
    below h = omega arith

    above : b ≤ a → a - b + b ≡ 0 + a
    above h = omega arith

pub +ℤ_parts : (a b : ℤ) → pos_part (a +ℤ b) + (neg_part a + neg_part b) ≡ neg_part (a +ℤ b) + (pos_part a + pos_part b)
+ℤ_parts (pos a) (pos b) = omega arith
+ℤ_parts (pos a) (negsuc b) = omega (arith, sub_ℕ_parts a (suc b))
+ℤ_parts (negsuc a) (pos b) = omega (arith, sub_ℕ_parts b (suc a))
+ℤ_parts (negsuc a) (negsuc b) = omega arith

pub neg_ℤ_parts : (a : ℤ) → (pos_part (neg_ℤ a) ≡ neg_part a) × (neg_part (neg_ℤ a) ≡ pos_part a)
neg_ℤ_parts (pos zero) = (refl, refl)
neg_ℤ_parts (pos (suc n)) = (refl, refl)
neg_ℤ_parts (negsuc n) = (refl, refl)

pub -ℤ-parts : (a b : ℤ) → pos_part (a -ℤ b) + (neg_part a + pos_part b) ≡ neg_part (a -ℤ b) + (pos_part a + neg_part b)
-ℤ-parts a b = omega (arith, +ℤ_parts a (neg_ℤ b), neg_ℤ_parts b)

pub *ℤ_parts : (a b : ℤ) → pos_part (a *ℤ b) + (pos_part a * neg_part b + neg_part a * pos_part b) ≡ neg_part (a *ℤ b) + (pos_part a * pos_part b + neg_part a * neg_part b)
*ℤ_parts (pos a) (pos b) = omega arith
*ℤ_parts (pos a) (negsuc b) = omega (arith, neg_ℤ_parts (pos (a * suc b)))
*ℤ_parts (negsuc a) (pos b) = omega (arith, neg_ℤ_parts (pos (suc a * b)))
*ℤ_parts (negsuc a) (negsuc b) = omega arith

pub nat_abs_parts : (a : ℤ) → nat_abs a ≡ pos_part a + neg_part a
nat_abs_parts (pos n) = omega arith
nat_abs_parts (negsuc n) = omega arith

-- one of the two parts is 0
pub one_part : (a : ℤ) → min (pos_part a) (neg_part a) ≡ 0
one_part (pos n) = omega arith
one_part (negsuc n) = omega arith

-- ---- examples
-- from order facts to an order fact
chain : (a b c : ℤ) → a ≤ℤ b → b <ℤ c → a <ℤ c
chain a b c h k = omega (arith, integer)

-- with a sum on each side
sum_of_orders : (a b c d : ℤ) → a ≤ℤ b → c ≤ℤ d → (a +ℤ c) ≤ℤ (b +ℤ d)
sum_of_orders a b c d h k = omega (arith, integer, +ℤ_parts a c, +ℤ_parts b d)

-- from an equation
from_equation : (a b : ℤ) → a ≡ b +ℤ pos 1 → b <ℤ a
from_equation a b h = omega (arith, integer, +ℤ_parts b (pos 1))

-- to an equation
to_equation : (a b : ℤ) → a ≤ℤ b → b ≤ℤ a → a ≡ b
to_equation a b h k = omega (arith, integer)
