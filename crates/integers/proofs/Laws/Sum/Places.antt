-- More laws of `sum` at single places: g is f but for two places; f is zero but for two; one term of many that aren't negative.
-- Assumes nothing.
use mathlib.Core.Path.{◌≡◌, refl, sym, ◌∙◌, ap}
use mathlib.Core.Bool.{cond}
use mathlib.Core.List.{[], ◌∷◌}
use Prim.Native.Nat.{ℕ, zero, suc, ◌<◌}
use native.Mathlib.Nat.{le_refl}
use native.Mathlib.Decide.{ℕ_discrete}
use native.Mathlib.Omega.{arith}
use borrow.Author.Tests.{eq-eqb, ne_eqb}
use lib.Dec.{eqb}
use lib.IntN.{ℤ, pos, ◌+ℤ◌, ◌-ℤ◌}
use lib.Signed.{◌≤ℤ◌}
use Rattle.integers.proofs.Laws.Solver.{con, ◌⊕◌, ◌⊖◌, x₀, x₁, solve}
use Rattle.integers.proofs.Laws.Linear.{integer, +ℤ_parts}
use Rattle.integers.specs.Sum.{sum}
use Rattle.integers.proofs.Laws.Sum.{sum_zero, sum_changed, sum_nonneg}

-- f with z at place i
put : (ℕ → ℤ) → ℕ → ℤ → ℕ → ℤ
put f i z k = cond (eqb k i) z (f k)

put_same : (f : ℕ → ℤ) (i : ℕ) (z : ℤ) → put f i z i ≡ z
unfolding put
put_same f i z = ap (λ t. cond t z (f i)) (eq-eqb i i refl)

put_other : (f : ℕ → ℤ) (i : ℕ) (z : ℤ) (k : ℕ) → ¬ (k ≡ i) → put f i z k ≡ f k
unfolding put
put_other f i z k h = ap (λ t. cond t z (f k)) (ne_eqb k i h)

module _ (n i j : ℕ) (i_within : i < n) (j_within : j < n) (apart : ¬ (i ≡ j)) where
  -- g is f but for places i and j
  pub sum_changed₂ : (f g : ℕ → ℤ) → ((k : ℕ) → k < n → ¬ (k ≡ i) → ¬ (k ≡ j) → g k ≡ f k) → sum n g ≡ sum n f +ℤ (g i -ℤ f i) +ℤ (g j -ℤ f j)
  sum_changed₂ f g h =
      sum_changed n j between g j_within (λ k l m. second k l m (ℕ_discrete k i))
      ∙ (λ d. (sum_changed n i f between i_within (λ k l m. put_other f i (g i) k m) ∙ ap (λ z. sum n f +ℤ (z -ℤ f i)) (put_same f i (g i))) d
      +ℤ (g j -ℤ put_other f i (g i) j (λ e. apart (sym e)) d))
    where
      between : ℕ → ℤ
      between = put f i (g i)

      second : (k : ℕ) → k < n → ¬ (k ≡ j) → Dec (k ≡ i) → g k ≡ between k
      second k l m (yes e) = ap g e ∙ sym (put_same f i (g i)) ∙ ap between (sym e)
      second k l m (no c) = h k l c m ∙ sym (put_other f i (g i) k c)

  -- f is zero but for places i and j
  pub sum_only₂ : (f : ℕ → ℤ) → ((k : ℕ) → k < n → ¬ (k ≡ i) → ¬ (k ≡ j) → f k ≡ pos 0) → sum n f ≡ f i +ℤ f j
  sum_only₂ f h =
      sum_changed₂ (λ k. pos 0) f h
      ∙ ap (λ x. x +ℤ (f i -ℤ pos 0) +ℤ (f j -ℤ pos 0)) (sum_zero n (λ k. pos 0) (λ k l. refl))
      ∙ solve (f i ∷ f j ∷ []) (con (pos 0) ⊕ (x₀ ⊖ con (pos 0)) ⊕ (x₁ ⊖ con (pos 0))) (x₀ ⊕ x₁) refl

-- no term of a sum of terms that aren't negative is above the sum
pub sum_term : (n k : ℕ) (f : ℕ → ℤ) → k < n → ((i : ℕ) → i < n → pos 0 ≤ℤ f i) → f k ≤ℤ sum n f
unfolding sum
sum_term zero k f l h = absurd (omega arith)
sum_term (suc n) k f l h = at_last (ℕ_discrete k n) (λ m. sum_term n k f m (λ i q. h i (omega arith)))
  where
    at_last : Dec (k ≡ n) → (k < n → f k ≤ℤ sum n f) → f k ≤ℤ (sum n f +ℤ f n)
    at_last (yes e) ih =
        let s = sum_nonneg n f (λ i q. h i (omega arith)) in
        rw e (omega (arith, integer, +ℤ_parts (sum n f) (f n)))
    at_last (no c) ih =
        let s = ih (omega arith) in
        let t = h n (le_refl (suc n)) in
        omega (arith, integer, +ℤ_parts (sum n f) (f n))
