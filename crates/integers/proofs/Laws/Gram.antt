-- Laws of Gram forms: symmetry, bilinearity, the quadratic form expanded and not negative; sums and products of Gram forms are Gram
-- forms. Assumes nothing.
use mathlib.Core.Path.{◌≡◌, refl, sym, ◌∙◌, ap, subst}
use mathlib.Core.List.{[], ◌∷◌}
use mathlib.Core.Bool.{Bool, true, false}
use Prim.Native.Nat.{ℕ, ◌+◌, ◌-◌, ◌*◌, ◌/◌, ◌%◌, ◌<◌}
use native.Mathlib.Nat.{add-sub_cancel_left}
use native.Mathlib.Omega.{arith}
use borrow.Author.Tests.{lt-ltb, le-ltb}
use lib.Dec.{ltb}
use lib.IntN.{ℤ, pos, negsuc, ◌+ℤ◌, ◌-ℤ◌, ◌*ℤ◌, *ℤ_comm}
use lib.Signed.{◌≤ℤ◌}
use Rattle.integers.proofs.Laws.Ring.{*ℤ_swap}
use Rattle.integers.proofs.Laws.Solver.{con, ◌⊕◌, ◌⊗◌, ◌⊖◌, x₀, x₁, x₂, x₃, solve}
use Rattle.integers.proofs.Laws.Order.{square_nonneg}
use Rattle.integers.specs.Sum.{sum}
use Rattle.integers.proofs.Laws.Sum.{sum_cong, sum_cong₂, sum-+ℤ, sum-*ℤ, sum_exchange, sum_product, sum-append, sum-flatten, sum_nonneg}
use Rattle.integers.specs.Gram.{Gram, bilinear, quadratic}

-- ---- the bilinear form
module _ (n : ℕ) (K : ℕ → ℕ → ℤ) where
  pub bilinear-+ˡ : (u v w : ℕ → ℤ) → bilinear n K (λ i. u i +ℤ v i) w ≡ bilinear n K u w +ℤ bilinear n K v w
  unfolding bilinear
  bilinear-+ˡ u v w =
      sum_cong n (λ i. sum n (λ j. (u i +ℤ v i) *ℤ w j *ℤ K i j)) (λ i. sum n (λ j. u i *ℤ w j *ℤ K i j) +ℤ sum n (λ j. v i *ℤ w j *ℤ K i j))
      (λ i l. sum_cong n (λ j. (u i +ℤ v i) *ℤ w j *ℤ K i j) (λ j. u i *ℤ w j *ℤ K i j +ℤ v i *ℤ w j *ℤ K i j) (λ j k. solve (u i ∷ v i ∷ w j ∷ K i j ∷ []) ((x₀ ⊕ x₁) ⊗ x₂ ⊗ x₃) (x₀ ⊗ x₂ ⊗ x₃ ⊕ x₁ ⊗ x₂ ⊗ x₃) refl)
      ∙ sum-+ℤ n (λ j. u i *ℤ w j *ℤ K i j) (λ j. v i *ℤ w j *ℤ K i j))
      ∙ sum-+ℤ n (λ i. sum n (λ j. u i *ℤ w j *ℤ K i j)) (λ i. sum n (λ j. v i *ℤ w j *ℤ K i j))

  pub bilinear-*ˡ : (c : ℤ) (u w : ℕ → ℤ) → bilinear n K (λ i. c *ℤ u i) w ≡ c *ℤ bilinear n K u w
  unfolding bilinear
  bilinear-*ˡ c u w =
      sum_cong n (λ i. sum n (λ j. c *ℤ u i *ℤ w j *ℤ K i j)) (λ i. c *ℤ sum n (λ j. u i *ℤ w j *ℤ K i j))
      (λ i l. sum_cong n (λ j. c *ℤ u i *ℤ w j *ℤ K i j) (λ j. c *ℤ (u i *ℤ w j *ℤ K i j)) (λ j k. solve (c ∷ u i ∷ w j ∷ K i j ∷ []) (x₀ ⊗ x₁ ⊗ x₂ ⊗ x₃) (x₀ ⊗ (x₁ ⊗ x₂ ⊗ x₃)) refl)
      ∙ sum-*ℤ n c (λ j. u i *ℤ w j *ℤ K i j))
      ∙ sum-*ℤ n c (λ i. sum n (λ j. u i *ℤ w j *ℤ K i j))

  -- by rows: u_i times the sum of v_j · K_ij
  pub bilinear_rows : (u v : ℕ → ℤ) → bilinear n K u v ≡ sum n (λ i. u i *ℤ sum n (λ j. v j *ℤ K i j))
  unfolding bilinear
  bilinear_rows u v =
      sum_cong n (λ i. sum n (λ j. u i *ℤ v j *ℤ K i j)) (λ i. u i *ℤ sum n (λ j. v j *ℤ K i j))
      (λ i l. sum_cong n (λ j. u i *ℤ v j *ℤ K i j) (λ j. u i *ℤ (v j *ℤ K i j)) (λ j k. solve (u i ∷ v j ∷ K i j ∷ []) (x₀ ⊗ x₁ ⊗ x₂) (x₀ ⊗ (x₁ ⊗ x₂)) refl)
      ∙ sum-*ℤ n (u i) (λ j. v j *ℤ K i j))

  pub bilinear_cong : (u u' v v' : ℕ → ℤ) → ((i : ℕ) → i < n → u i ≡ u' i) → ((i : ℕ) → i < n → v i ≡ v' i) → bilinear n K u v ≡ bilinear n K u' v'
  unfolding bilinear
  bilinear_cong u u' v v' h k = sum_cong₂ n n (λ i j. u i *ℤ v j *ℤ K i j) (λ i j. u' i *ℤ v' j *ℤ K i j) (λ i j l m d. h i l d *ℤ k j m d *ℤ K i j)

-- ---- a Gram form
module _ {n : ℕ} {K : ℕ → ℕ → ℤ} (gram : Gram n K) where
  pub gram_sym : (i j : ℕ) → i < n → j < n → K i j ≡ K j i
  gram_sym i j l m =
      gram.entry i j l m
      ∙ sum_cong gram.rank (λ p. gram.feature p i *ℤ gram.feature p j) (λ p. gram.feature p j *ℤ gram.feature p i) (λ p k. *ℤ_comm (gram.feature p i) (gram.feature p j))
      ∙ sym (gram.entry j i m l)

  pub bilinear_sym : (u v : ℕ → ℤ) → bilinear n K u v ≡ bilinear n K v u
  unfolding bilinear
  bilinear_sym u v =
      sum_exchange n n (λ i j. u i *ℤ v j *ℤ K i j)
      ∙ sum_cong₂ n n (λ j i. u i *ℤ v j *ℤ K i j) (λ j i. v j *ℤ u i *ℤ K j i) (λ j i l m d. *ℤ_comm (u i) (v j) d *ℤ gram_sym i j m l d)

  -- Q(u + m·w) = Q(u) + 2·m·B(u, w) + m²·Q(w)
  pub quadratic_expand : (u w : ℕ → ℤ) (m : ℤ) → quadratic n K (λ i. u i +ℤ m *ℤ w i) ≡ quadratic n K u +ℤ pos 2 *ℤ m *ℤ bilinear n K u w +ℤ m *ℤ m *ℤ quadratic n K w
  quadratic_expand u w m =
      left (λ i. u i +ℤ m *ℤ w i)
      ∙ (λ d. (right u ∙ ap (λ z. bilinear n K u u +ℤ m *ℤ z) (bilinear_sym w u)) d +ℤ m *ℤ right w d)
      ∙ solve (bilinear n K u u ∷ bilinear n K u w ∷ bilinear n K w w ∷ m ∷ []) (x₀ ⊕ x₃ ⊗ x₁ ⊕ x₃ ⊗ (x₁ ⊕ x₃ ⊗ x₂)) (x₀ ⊕ con (pos 2) ⊗ x₃ ⊗ x₁ ⊕ x₃ ⊗ x₃ ⊗ x₂) refl
    where
      left : (v : ℕ → ℤ) → bilinear n K (λ i. u i +ℤ m *ℤ w i) v ≡ bilinear n K u v +ℤ m *ℤ bilinear n K w v
      left v = bilinear-+ˡ n K u (λ i. m *ℤ w i) v ∙ ap (λ z. bilinear n K u v +ℤ z) (bilinear-*ˡ n K m w v)

      right : (v : ℕ → ℤ) → bilinear n K v (λ i. u i +ℤ m *ℤ w i) ≡ bilinear n K u v +ℤ m *ℤ bilinear n K w v
      right v = bilinear_sym v (λ i. u i +ℤ m *ℤ w i) ∙ left v

  -- the quadratic form is a sum of squares
  pub quadratic_squares : (u : ℕ → ℤ) → quadratic n K u ≡ sum gram.rank (λ p. sum n (λ i. u i *ℤ gram.feature p i) *ℤ sum n (λ i. u i *ℤ gram.feature p i))
  unfolding bilinear
  quadratic_squares u =
      sum_cong₂ n n (λ i j. u i *ℤ u j *ℤ K i j) (λ i j. sum gram.rank (λ p. weighed p i *ℤ weighed p j)) spread
      ∙ sum_cong n (λ i. sum n (λ j. sum gram.rank (λ p. weighed p i *ℤ weighed p j))) (λ i. sum gram.rank (λ p. sum n (λ j. weighed p i *ℤ weighed p j))) (λ i l. sum_exchange n gram.rank (λ j p. weighed p i *ℤ weighed p j))
      ∙ sum_exchange n gram.rank (λ i p. sum n (λ j. weighed p i *ℤ weighed p j))
      ∙ sum_cong gram.rank (λ p. sum n (λ i. sum n (λ j. weighed p i *ℤ weighed p j))) (λ p. sum n (weighed p) *ℤ sum n (weighed p)) (λ p l. sym (sum_product n n (weighed p) (weighed p)))
    where
      weighed : ℕ → ℕ → ℤ
      weighed p i = u i *ℤ gram.feature p i

      spread : (i j : ℕ) → i < n → j < n → u i *ℤ u j *ℤ K i j ≡ sum gram.rank (λ p. weighed p i *ℤ weighed p j)
      spread i j l m =
          ap (λ z. u i *ℤ u j *ℤ z) (gram.entry i j l m) ∙ sym (sum-*ℤ gram.rank (u i *ℤ u j) (λ p. gram.feature p i *ℤ gram.feature p j))
          ∙ sum_cong gram.rank (λ p. u i *ℤ u j *ℤ (gram.feature p i *ℤ gram.feature p j)) (λ p. weighed p i *ℤ weighed p j)
          (λ p k. solve (u i ∷ u j ∷ gram.feature p i ∷ gram.feature p j ∷ []) (x₀ ⊗ x₁ ⊗ (x₂ ⊗ x₃)) (x₀ ⊗ x₂ ⊗ (x₁ ⊗ x₃)) refl)

  pub quadratic_nonneg : (u : ℕ → ℤ) → pos 0 ≤ℤ quadratic n K u
  quadratic_nonneg u =
      subst (λ z. pos 0 ≤ℤ z) (sym (quadratic_squares u))
      (sum_nonneg gram.rank (λ p. sum n (λ i. u i *ℤ gram.feature p i) *ℤ sum n (λ i. u i *ℤ gram.feature p i)) (λ p l. square_nonneg (sum n (λ i. u i *ℤ gram.feature p i))))

  -- the squared distance of two places isn't negative
  pub distance_nonneg : (i j : ℕ) → i < n → j < n → pos 0 ≤ℤ (K i i +ℤ K j j -ℤ pos 2 *ℤ K i j)
  distance_nonneg i j l m =
      subst (λ z. pos 0 ≤ℤ z) squares (sum_nonneg gram.rank (λ p. apart p *ℤ apart p) (λ p k. square_nonneg (apart p)))
    where
      apart : ℕ → ℤ
      apart p = gram.feature p i -ℤ gram.feature p j

      inner : ℕ → ℕ → ℕ → ℤ
      inner a b p = gram.feature p a *ℤ gram.feature p b

      squares : sum gram.rank (λ p. apart p *ℤ apart p) ≡ K i i +ℤ K j j -ℤ pos 2 *ℤ K i j
      squares =
          sum_cong gram.rank (λ p. apart p *ℤ apart p) (λ p. inner i i p +ℤ inner j j p +ℤ negsuc 1 *ℤ inner i j p)
          (λ p k. solve (gram.feature p i ∷ gram.feature p j ∷ []) ((x₀ ⊖ x₁) ⊗ (x₀ ⊖ x₁)) (x₀ ⊗ x₀ ⊕ x₁ ⊗ x₁ ⊕ con (negsuc 1) ⊗ (x₀ ⊗ x₁)) refl)
          ∙ sum-+ℤ gram.rank (λ p. inner i i p +ℤ inner j j p) (λ p. negsuc 1 *ℤ inner i j p)
          ∙ (λ d. sum-+ℤ gram.rank (inner i i) (inner j j) d +ℤ sum-*ℤ gram.rank (negsuc 1) (inner i j) d)
          ∙ (λ d. sym (gram.entry i i l l) d +ℤ sym (gram.entry j j m m) d +ℤ negsuc 1 *ℤ sym (gram.entry i j l m) d)
          ∙ solve (K i i ∷ K j j ∷ K i j ∷ []) (x₀ ⊕ x₁ ⊕ con (negsuc 1) ⊗ x₂) (x₀ ⊕ x₁ ⊖ con (pos 2) ⊗ x₂) refl

-- ---- Gram forms made of Gram forms
pub gram_one : (n : ℕ) → Gram n (λ i j. pos 1)
unfolding sum
gram_one n = record { rank = 1; feature = λ p i. pos 1; entry = λ i j l m. refl }

pub gram-+ : {n : ℕ} {K L : ℕ → ℕ → ℤ} → Gram n K → Gram n L → Gram n (λ i j. K i j +ℤ L i j)
gram-+ {n} {K} {L} g h =
    record {
      rank = g.rank + h.rank;
      feature = λ p i. joined p i (ltb p g.rank);
      entry =
          λ i j l m. (λ d. g.entry i j l m d +ℤ h.entry i j l m d)
          ∙ (λ d. sum_cong g.rank (λ p. g.feature p i *ℤ g.feature p j) (λ p. both p i j) (λ p k e. below p i k e *ℤ below p j k e) d
          +ℤ sum_cong h.rank (λ p. h.feature p i *ℤ h.feature p j) (λ p. both (g.rank + p) i j) (λ p k e. above p i e *ℤ above p j e) d)
          ∙ sym (sum-append g.rank h.rank (λ p. both p i j));
    }
  where
    -- the entries of the one vector, then those of the other
    joined : ℕ → ℕ → Bool → ℤ
    joined p i true = g.feature p i
    joined p i false = h.feature (p - g.rank) i

    both : ℕ → ℕ → ℕ → ℤ
    both p i j = joined p i (ltb p g.rank) *ℤ joined p j (ltb p g.rank)

    below : (p i : ℕ) → p < g.rank → g.feature p i ≡ joined p i (ltb p g.rank)
    below p i k = sym (ap (joined p i) (lt-ltb p g.rank k))

    above : (p i : ℕ) → h.feature p i ≡ joined (g.rank + p) i (ltb (g.rank + p) g.rank)
    above p i = sym (ap (joined (g.rank + p) i) (le-ltb (g.rank + p) g.rank (omega arith)) ∙ ap (λ q. h.feature q i) (add-sub_cancel_left g.rank p))

pub gram-* : {n : ℕ} {K L : ℕ → ℕ → ℤ} → Gram n K → Gram n L → Gram n (λ i j. K i j *ℤ L i j)
gram-* {n} {K} {L} g h =
    record {
      rank = g.rank * h.rank;
      feature = λ p i. g.feature (p / h.rank) i *ℤ h.feature (p % h.rank) i;
      entry =
          λ i j l m. (λ d. g.entry i j l m d *ℤ h.entry i j l m d)
          ∙ sum_product g.rank h.rank (λ p. g.feature p i *ℤ g.feature p j) (λ q. h.feature q i *ℤ h.feature q j)
          ∙ sum_cong₂ g.rank h.rank (λ p q. g.feature p i *ℤ g.feature p j *ℤ (h.feature q i *ℤ h.feature q j)) (λ p q. g.feature p i *ℤ h.feature q i *ℤ (g.feature p j *ℤ h.feature q j))
          (λ p q k o. *ℤ_swap (g.feature p i) (g.feature p j) (h.feature q i) (h.feature q j))
          ∙ sym (sum-flatten g.rank h.rank (λ p q. g.feature p i *ℤ h.feature q i *ℤ (g.feature p j *ℤ h.feature q j)));
    }
