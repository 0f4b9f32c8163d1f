-- The order of ℤ: an order, total, kept by sums; sums, products and squares that aren't negative; the tests `le_z` and `lt_z` of lib.Signed as
-- facts; inequalities by a certificate. Assumes nothing.
pub mod Product
use mathlib.Core.Path.{◌≡◌, refl, sym, ◌∙◌, subst}
use mathlib.Core.Logic.{◌≢◌, ◌⊎◌, inl, inr, ⊎_elim}
use mathlib.Core.Bool.{Bool, true, false, not}
use mathlib.Core.List.{List, [], ◌∷◌}
use Prim.Native.Nat.{ℕ, suc, ◌*◌}
use native.Mathlib.Omega.{arith}
use lib.Dec.{T}
use lib.IntN.{ℤ, pos, negsuc, ◌+ℤ◌, ◌-ℤ◌, ◌*ℤ◌}
use lib.Signed.{le_z, lt_z, ◌≤ℤ◌, ◌<ℤ◌, le_z_yes, lt_z_yes, lt_z_no, clash_ℤ}
use Rattle.integers.proofs.Laws.Solver.{Expr, con, ◌⊕◌, ◌⊗◌, ◌⊖◌, x₀, x₁, value, normal, solve}
use Rattle.integers.proofs.Laws.Linear.{integer, ≡_to_parts, +ℤ_parts, -ℤ-parts}
pub use Rattle.integers.proofs.Laws.Order.Product.{pos_nonneg, *ℤ_nonneg}

-- ---- the tests, as facts and back
pub lt_z_true : (a b : ℤ) → lt_z a b ≡ true → a <ℤ b
lt_z_true a b e = lt_z_yes (subst T (sym e) tt)

pub lt_z_false : (a b : ℤ) → lt_z a b ≡ false → b ≤ℤ a
lt_z_false a b e = lt_z_no (subst (λ t. T (not t)) (sym e) tt)

pub le_z_true : (a b : ℤ) → le_z a b ≡ true → a ≤ℤ b
le_z_true a b e = le_z_yes (subst T (sym e) tt)

T_true : (t : Bool) → T t → t ≡ true
T_true true h = refl
T_true false h = absurd h

T_false : (t : Bool) → (T t → ⊥) → t ≡ false
T_false true h = absurd (h tt)
T_false false h = refl

pub <ℤ-lt_z : {a b : ℤ} → a <ℤ b → lt_z a b ≡ true
<ℤ-lt_z {a} {b} h = T_true (lt_z a b) h.lt

pub ≤ℤ-lt_z : {a b : ℤ} → b ≤ℤ a → lt_z a b ≡ false
≤ℤ-lt_z {a} {b} h = T_false (lt_z a b) (λ t. clash_ℤ (lt_z_yes t) h)

pub ≤ℤ-le_z : {a b : ℤ} → a ≤ℤ b → le_z a b ≡ true
≤ℤ-le_z {a} {b} h = T_true (le_z a b) h.le

pub <ℤ-le_z : {a b : ℤ} → b <ℤ a → le_z a b ≡ false
<ℤ-le_z {a} {b} h = T_false (le_z a b) (λ t. clash_ℤ h (le_z_yes t))

-- ---- an order, and total (lib.Signed has ≤ℤ-refl, <ℤ-≤ℤ-trans and <ℤ-irrefl)
pub ≤ℤ_trans : {a b c : ℤ} → a ≤ℤ b → b ≤ℤ c → a ≤ℤ c
≤ℤ_trans h k = omega (arith, integer)

pub ≤ℤ_antisym : {a b : ℤ} → a ≤ℤ b → b ≤ℤ a → a ≡ b
≤ℤ_antisym h k = omega (arith, integer)

pub ≤ℤ_reflexive : {a b : ℤ} → a ≡ b → a ≤ℤ b
≤ℤ_reflexive h = omega (arith, integer)

pub <ℤ_to-≤ℤ : {a b : ℤ} → a <ℤ b → a ≤ℤ b
<ℤ_to-≤ℤ h = omega (arith, integer)

pub ≤ℤ_or-<ℤ : (a b : ℤ) → (a ≤ℤ b) ⊎ (b <ℤ a)
≤ℤ_or-<ℤ a b = go (lt_z b a) refl
  where
    go : (t : Bool) → lt_z b a ≡ t → (a ≤ℤ b) ⊎ (b <ℤ a)
    go true e = inr (lt_z_true b a e)
    go false e = inl (lt_z_false b a e)

pub ≤ℤ-≢-<ℤ : {a b : ℤ} → a ≤ℤ b → a ≢ b → a <ℤ b
≤ℤ-≢-<ℤ {a} {b} h k = ⊎_elim (λ l. absurd (k (≤ℤ_antisym h l))) (λ l. l) (≤ℤ_or-<ℤ b a)

pub ≤ℤ_total : (a b : ℤ) → (a ≤ℤ b) ⊎ (b ≤ℤ a)
≤ℤ_total a b = ⊎_elim (λ h. inl h) (λ h. inr (<ℤ_to-≤ℤ h)) (≤ℤ_or-<ℤ a b)

pub le_z_false : (a b : ℤ) → le_z a b ≡ false → b <ℤ a
le_z_false a b e = ⊎_elim (λ h. absurd (subst T (sym (≤ℤ-le_z h) ∙ e) tt)) (λ h. h) (≤ℤ_or-<ℤ a b)

-- ---- the sum
pub +ℤ_mono : {a b c d : ℤ} → a ≤ℤ b → c ≤ℤ d → (a +ℤ c) ≤ℤ (b +ℤ d)
+ℤ_mono {a} {b} {c} {d} h k = omega (arith, integer, +ℤ_parts a c, +ℤ_parts b d)

-- ---- what isn't negative: sums, products, squares, differences. `search positivity` shows `pos 0 ≤ℤ e` by them
pub +ℤ_nonneg : {a b : ℤ} → pos 0 ≤ℤ a → pos 0 ≤ℤ b → pos 0 ≤ℤ (a +ℤ b)
+ℤ_nonneg {a} {b} h k = omega (arith, integer, +ℤ_parts a b)

pub square_nonneg : (a : ℤ) → pos 0 ≤ℤ (a *ℤ a)
square_nonneg (pos a) = pos_nonneg (a * a)
square_nonneg (negsuc a) = pos_nonneg (suc a * suc a)

pub -ℤ-nonneg : {a b : ℤ} → a ≤ℤ b → pos 0 ≤ℤ (b -ℤ a)
-ℤ-nonneg {a} {b} h = omega (arith, integer, -ℤ-parts b a)

pub ruleset positivity = (pos_nonneg, square_nonneg, +ℤ_nonneg, *ℤ_nonneg, -ℤ-nonneg)

-- ---- a certificate: an expression d that isn't negative, with b = a + d by the solver, shows a ≤ b
pub certificate : (ρ : List ℤ) (a b d : Expr) → normal b ≡ normal (a ⊕ d) → pos 0 ≤ℤ value ρ d → value ρ a ≤ℤ value ρ b
certificate ρ a b d e h = omega (arith, integer, +ℤ_parts (value ρ a) (value ρ d), ≡_to_parts (solve ρ b (a ⊕ d) e))

-- ---- an example: twice a product is at most the sum of the squares, the difference being a square
product_below_squares : (a b : ℤ) → (pos 2 *ℤ (a *ℤ b)) ≤ℤ (a *ℤ a +ℤ b *ℤ b)
product_below_squares a b =
    certificate (a ∷ b ∷ []) (con (pos 2) ⊗ (x₀ ⊗ x₁)) (x₀ ⊗ x₀ ⊕ x₁ ⊗ x₁) ((x₀ ⊖ x₁) ⊗ (x₀ ⊖ x₁)) refl (search positivity)
