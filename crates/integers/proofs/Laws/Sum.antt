-- Laws of `sum`: congruence, linearity, order, sums of sums, one place changed, ones. Assumes nothing.
pub mod Places
pub mod Balanced
use mathlib.Core.Path.{◌≡◌, refl, sym, ◌∙◌, ap}
use mathlib.Core.List.{[], ◌∷◌}
use Prim.Native.Nat.{ℕ, zero, suc, ◌+◌, ◌*◌, ◌/◌, ◌%◌, ◌<◌}
use native.Mathlib.Nat.{add-zero, add-suc, zero-mul, suc-mul, le_refl, mul-add-div_right, mul-add-mod_self_right, div-eq_of_lt, mod-eq_of_lt}
use native.Mathlib.Decide.{ℕ_discrete}
use native.Mathlib.Omega.{arith}
use lib.IntN.{ℤ, pos, negsuc, neg_ℤ, ◌+ℤ◌, ◌-ℤ◌, ◌*ℤ◌, +ℤ_idr, +ℤ_assoc, *ℤ_comm, *ℤ-zero}
use lib.Signed.{◌≤ℤ◌, ≤ℤ_refl}
use Rattle.integers.proofs.Laws.Ring.{+ℤ_swap, *ℤ_distribˡ-+ℤ, minus_one_*ℤ}
use Rattle.integers.proofs.Laws.Solver.{◌⊕◌, ◌⊖◌, x₀, x₁, x₂, x₃, solve}
use Rattle.integers.proofs.Laws.Order.{+ℤ_mono, ≤ℤ_trans, ≤ℤ_reflexive}
use Rattle.integers.specs.Sum.{sum}

-- ---- congruence
pub sum_cong : (n : ℕ) (f g : ℕ → ℤ) → ((i : ℕ) → i < n → f i ≡ g i) → sum n f ≡ sum n g
unfolding sum
sum_cong zero f g h = refl
sum_cong (suc n) f g h = (λ k. sum_cong n f g (λ i l. h i (omega arith)) k +ℤ h n (le_refl (suc n)) k)

pub sum_cong₂ : (n m : ℕ) (f g : ℕ → ℕ → ℤ) → ((i j : ℕ) → i < n → j < m → f i j ≡ g i j) → sum n (λ i. sum m (λ j. f i j)) ≡ sum n (λ i. sum m (λ j. g i j))
sum_cong₂ n m f g h = sum_cong n (λ i. sum m (f i)) (λ i. sum m (g i)) (λ i l. sum_cong m (f i) (g i) (λ j k. h i j l k))

pub sum_zero : (n : ℕ) (f : ℕ → ℤ) → ((i : ℕ) → i < n → f i ≡ pos 0) → sum n f ≡ pos 0
unfolding sum
sum_zero zero f h = refl
sum_zero (suc n) f h = (λ k. sum_zero n f (λ i l. h i (omega arith)) k +ℤ h n (le_refl (suc n)) k)

-- ---- linearity
pub sum-+ℤ : (n : ℕ) (f g : ℕ → ℤ) → sum n (λ i. f i +ℤ g i) ≡ sum n f +ℤ sum n g
unfolding sum
sum-+ℤ zero f g = refl
sum-+ℤ (suc n) f g = ap (λ x. x +ℤ (f n +ℤ g n)) (sum-+ℤ n f g) ∙ +ℤ_swap (sum n f) (sum n g) (f n) (g n)

pub sum-*ℤ : (n : ℕ) (c : ℤ) (f : ℕ → ℤ) → sum n (λ i. c *ℤ f i) ≡ c *ℤ sum n f
unfolding sum
sum-*ℤ zero c f = sym (*ℤ-zero c)
sum-*ℤ (suc n) c f = ap (λ x. x +ℤ c *ℤ f n) (sum-*ℤ n c f) ∙ sym (*ℤ_distribˡ-+ℤ c (sum n f) (f n))

pub sum-neg_ℤ : (n : ℕ) (f : ℕ → ℤ) → sum n (λ i. neg_ℤ (f i)) ≡ neg_ℤ (sum n f)
sum-neg_ℤ n f = sum_cong n (λ i. neg_ℤ (f i)) (λ i. negsuc 0 *ℤ f i) (λ i l. sym (minus_one_*ℤ (f i))) ∙ sum-*ℤ n (negsuc 0) f ∙ minus_one_*ℤ (sum n f)

pub sum--ℤ : (n : ℕ) (f g : ℕ → ℤ) → sum n (λ i. f i -ℤ g i) ≡ sum n f -ℤ sum n g
sum--ℤ n f g = sum-+ℤ n f (λ i. neg_ℤ (g i)) ∙ ap (λ x. sum n f +ℤ x) (sum-neg_ℤ n g)

-- ---- order
pub sum_mono : (n : ℕ) (f g : ℕ → ℤ) → ((i : ℕ) → i < n → f i ≤ℤ g i) → sum n f ≤ℤ sum n g
unfolding sum
sum_mono zero f g h = ≤ℤ_refl (pos 0)
sum_mono (suc n) f g h = +ℤ_mono (sum_mono n f g (λ i l. h i (omega arith))) (h n (le_refl (suc n)))

pub sum_nonneg : (n : ℕ) (f : ℕ → ℤ) → ((i : ℕ) → i < n → pos 0 ≤ℤ f i) → pos 0 ≤ℤ sum n f
sum_nonneg n f h = ≤ℤ_trans (≤ℤ_reflexive (sym (sum_zero n (λ i. pos 0) (λ i l. refl)))) (sum_mono n (λ i. pos 0) f h)

-- ---- sums of sums
pub sum_exchange : (n m : ℕ) (f : ℕ → ℕ → ℤ) → sum n (λ i. sum m (λ j. f i j)) ≡ sum m (λ j. sum n (λ i. f i j))
unfolding sum
sum_exchange zero m f = sym (sum_zero m (λ j. pos 0) (λ j l. refl))
sum_exchange (suc n) m f = ap (λ x. x +ℤ sum m (λ j. f n j)) (sum_exchange n m f) ∙ sym (sum-+ℤ m (λ j. sum n (λ i. f i j)) (λ j. f n j))

pub sum_product : (n m : ℕ) (f g : ℕ → ℤ) → sum n f *ℤ sum m g ≡ sum n (λ i. sum m (λ j. f i *ℤ g j))
sum_product n m f g =
    *ℤ_comm (sum n f) (sum m g) ∙ sym (sum-*ℤ n (sum m g) f)
    ∙ sum_cong n (λ i. sum m g *ℤ f i) (λ i. sum m (λ j. f i *ℤ g j)) (λ i l. *ℤ_comm (sum m g) (f i) ∙ sym (sum-*ℤ m (f i) g))

pub sum-append : (n m : ℕ) (f : ℕ → ℤ) → sum (n + m) f ≡ sum n f +ℤ sum m (λ j. f (n + j))
unfolding sum
sum-append n zero f = ap (λ k. sum k f) (add-zero n) ∙ sym (+ℤ_idr (sum n f))
sum-append n (suc m) f = ap (λ k. sum k f) (add-suc n m) ∙ ap (λ x. x +ℤ f (n + m)) (sum-append n m f) ∙ +ℤ_assoc (sum n f) (sum m (λ j. f (n + j))) (f (n + m))

-- a double sum over i < n and j < m is a sum over the n · m places i · m + j
pub sum-flatten : (n m : ℕ) (f : ℕ → ℕ → ℤ) → sum (n * m) (λ p. f (p / m) (p % m)) ≡ sum n (λ i. sum m (λ j. f i j))
unfolding sum
sum-flatten zero m f = ap (λ k. sum k (λ p. f (p / m) (p % m))) (zero-mul m)
sum-flatten (suc n) m f =
    ap (λ k. sum k (λ p. f (p / m) (p % m))) (suc-mul n m) ∙ sum-append (n * m) m (λ p. f (p / m) (p % m))
    ∙ (λ k. sum-flatten n m f k +ℤ sum_cong m (λ j. f ((n * m + j) / m) ((n * m + j) % m)) (λ j. f n j) (λ j l. row j l) k)
  where
    row : (j : ℕ) → j < m → f ((n * m + j) / m) ((n * m + j) % m) ≡ f n j
    row j l =
        (λ k. f ((mul-add-div_right (omega arith) n j ∙ ap (λ q. n + q) (div-eq_of_lt l) ∙ add-zero n) k)
        ((mul-add-mod_self_right n m j ∙ mod-eq_of_lt l) k))

-- ---- one place
-- g is f but for place k
pub sum_changed : (n k : ℕ) (f g : ℕ → ℤ) → k < n → ((i : ℕ) → i < n → ¬ (i ≡ k) → g i ≡ f i) → sum n g ≡ sum n f +ℤ (g k -ℤ f k)
unfolding sum
sum_changed zero k f g h e = absurd (omega arith)
sum_changed (suc n) k f g h e = at_last (ℕ_discrete k n) (λ l. sum_changed n k f g l (λ i m. e i (omega arith)))
  where
    at_last : Dec (k ≡ n) → (k < n → sum n g ≡ sum n f +ℤ (g k -ℤ f k)) → sum n g +ℤ g n ≡ sum n f +ℤ f n +ℤ (g k -ℤ f k)
    at_last (yes p) ih =
        rw p
        (ap (λ x. x +ℤ g n) (sum_cong n g f (λ i l. e i (omega arith) (omega arith)))
        ∙ solve (sum n f ∷ f n ∷ g n ∷ []) (x₀ ⊕ x₂) (x₀ ⊕ x₁ ⊕ (x₂ ⊖ x₁)) refl)
    at_last (no p) ih =
        (λ m. ih (omega arith) m +ℤ e n (le_refl (suc n)) (omega arith) m)
        ∙ solve (sum n f ∷ f n ∷ g k ∷ f k ∷ []) (x₀ ⊕ (x₂ ⊖ x₃) ⊕ x₁) (x₀ ⊕ x₁ ⊕ (x₂ ⊖ x₃)) refl

-- ---- ones
pub sum_ones : (n : ℕ) → sum n (λ (i : ℕ). pos 1) ≡ pos n
unfolding sum
sum_ones zero = refl
sum_ones (suc n) = ap (λ z. z +ℤ pos 1) (sum_ones n) ∙ ap pos (omega arith)
