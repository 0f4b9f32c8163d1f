-- Integers u_i over i < n that sum to zero, each at most a ceiling of its own, M_i, in size. Twice the sum of their positive parts is at
-- most the sum of the ceilings, and where all ceilings are c at most 2 · c times half of n, rounded down: the positive parts and the
-- negative ones sum to the same, and no place is on both sides. The sum of the u_i weighed with values that are at least `low` where u is
-- positive and at most `high` where it is negative is bounded by that. Assumes nothing.
use mathlib.Core.Path.{◌≡◌, refl, sym, ◌∙◌, ap}
use mathlib.Core.Logic.{⊎_elim}
use mathlib.Core.List.{[], ◌∷◌}
use Prim.Native.Nat.{ℕ, zero, suc, ◌*◌, ◌/◌, ◌≤◌, ◌<◌}
use native.Mathlib.Omega.{arith}
use lib.IntN.{ℤ, pos, negsuc, neg_ℤ, nat_abs, ◌+ℤ◌, ◌-ℤ◌, ◌*ℤ◌, +ℤ_idl}
use lib.Signed.{◌≤ℤ◌, ≤ℤ_refl}
use Rattle.integers.proofs.Laws.Solver.{con, ⊝◌, ◌⊕◌, ◌⊗◌, ◌⊖◌, x₀, x₁, x₂, x₃, x₄, x₅, solve}
use Rattle.integers.proofs.Laws.Linear.{pos_part, neg_part, integer, ≡_to_parts, +ℤ_parts, -ℤ-parts}
use Rattle.integers.proofs.Laws.Order.{≤ℤ_trans, ≤ℤ_reflexive, ≤ℤ_or-<ℤ, pos_nonneg, positivity, certificate}
use Rattle.integers.specs.Sum.{sum}
use Rattle.integers.proofs.Laws.Sum.{sum_cong, sum-+ℤ, sum-*ℤ, sum--ℤ, sum_mono, sum_nonneg, sum_ones}

-- ---- the two parts
-- the sums of the positive and of the negative parts
abbrev pub positives : ℕ → (ℕ → ℤ) → ℤ
positives n u = sum n (λ i. pos (pos_part (u i)))

abbrev negatives : ℕ → (ℕ → ℤ) → ℤ
negatives n u = sum n (λ i. pos (neg_part (u i)))

parts_difference : (z : ℤ) → z ≡ pos (pos_part z) -ℤ pos (neg_part z)
parts_difference (pos n) = solve (pos n ∷ []) x₀ (x₀ ⊖ con (pos 0)) refl
parts_difference (negsuc n) = sym (+ℤ_idl (negsuc n))

sum_parts : (n : ℕ) (u : ℕ → ℤ) → sum n u ≡ positives n u -ℤ negatives n u
sum_parts n u =
    sum_cong n u (λ i. pos (pos_part (u i)) -ℤ pos (neg_part (u i))) (λ i l. parts_difference (u i)) ∙ sum--ℤ n (λ i. pos (pos_part (u i))) (λ i. pos (neg_part (u i)))

-- ---- a ceiling for each place
-- which of the two sides an integer is on
abbrev above : ℤ → ℕ
above (pos k) = 1
above (negsuc k) = 0

abbrev below : ℤ → ℕ
below (pos k) = 0
below (negsuc k) = 1

module _ (M : ℕ) where
  above_part : (z : ℤ) → nat_abs z ≤ M → pos (pos_part z) ≤ℤ pos (M * above z)
  above_part (pos k) h = omega (arith, integer)
  above_part (negsuc k) h = omega (arith, integer)

  below_part : (z : ℤ) → nat_abs z ≤ M → pos (neg_part z) ≤ℤ pos (M * below z)
  below_part (pos k) h = omega (arith, integer)
  below_part (negsuc k) h = omega (arith, integer)

  one_side : (z : ℤ) → pos (M * above z) +ℤ pos (M * below z) ≡ pos M
  one_side (pos k) = ap pos (omega arith)
  one_side (negsuc k) = ap pos (omega arith)

-- the sum of the ceilings M of the places that w marks with 1, the others being marked with 0
abbrev marked : ℕ → (ℕ → ℕ) → (ℕ → ℕ) → ℤ
marked n M w = sum n (λ i. pos (M i * w i))

-- the ceilings of both sides are all ceilings
both_sides : (n : ℕ) (M : ℕ → ℕ) (u : ℕ → ℤ) → marked n M (λ i. above (u i)) +ℤ marked n M (λ i. below (u i)) ≡ sum n (λ i. pos (M i))
both_sides n M u =
    sym (sum-+ℤ n (λ i. pos (M i * above (u i))) (λ i. pos (M i * below (u i))))
    ∙ sum_cong n (λ i. pos (M i * above (u i)) +ℤ pos (M i * below (u i))) (λ i. pos (M i)) (λ i l. one_side (M i) (u i))

-- with one ceiling for all, c times as many as w marks
marked_equal : (n c : ℕ) (M w : ℕ → ℕ) → ((i : ℕ) → i < n → M i ≡ c) → marked n M w ≡ pos c *ℤ marked n (λ i. 1) w
marked_equal n c M w equal =
    sum_cong n (λ i. pos (M i * w i)) (λ i. pos c *ℤ pos (1 * w i)) (λ i l. (λ d. pos (equal i l d * w i)) ∙ ap (λ k. pos (c * k)) (omega arith))
    ∙ sum-*ℤ n (pos c) (λ i. pos (1 * w i))

module _ (n : ℕ) (u : ℕ → ℤ) (balanced : sum n u ≡ pos 0) where
  balance : negatives n u ≡ positives n u
  balance = omega (arith, integer, ≡_to_parts (sym balanced ∙ sum_parts n u), -ℤ-parts (positives n u) (negatives n u))

  module _ (M : ℕ → ℕ) (within : (i : ℕ) → i < n → nat_abs (u i) ≤ M i) where
    -- the positive parts sum to no more than the ceilings of either side
    positives_above : positives n u ≤ℤ marked n M (λ i. above (u i))
    positives_above = sum_mono n (λ i. pos (pos_part (u i))) (λ i. pos (M i * above (u i))) (λ i l. above_part (M i) (u i) (within i l))

    positives_below : positives n u ≤ℤ marked n M (λ i. below (u i))
    positives_below =
        ≤ℤ_trans (≤ℤ_reflexive (sym balance))
        (sum_mono n (λ i. pos (neg_part (u i))) (λ i. pos (M i * below (u i))) (λ i l. below_part (M i) (u i) (within i l)))

    -- so twice their sum is at most the sum of all ceilings
    pub positives_sum : (pos 2 *ℤ positives n u) ≤ℤ sum n (λ i. pos (M i))
    positives_sum =
        let a = positives_above in
        let b = positives_below in
        ≤ℤ_trans
        (certificate (positives n u ∷ marked n M (λ i. above (u i)) ∷ marked n M (λ i. below (u i)) ∷ []) (con (pos 2) ⊗ x₀) (x₁ ⊕ x₂) (x₁ ⊖ x₀ ⊕ (x₂ ⊖ x₀)) refl (search positivity))
        (≤ℤ_reflexive (both_sides n M u))

    -- and where every ceiling is c, at most 2 · c · ⌊n / 2⌋, since one side has no more than half of the places
    pub positives_half : (c : ℕ) → ((i : ℕ) → i < n → M i ≡ c) → (pos 2 *ℤ positives n u) ≤ℤ pos (2 * c * (n / 2))
    positives_half c equal =
        ⊎_elim (at_most (λ i. above (u i)) positives_above)
        (λ h. at_most (λ i. below (u i)) positives_below
        (omega (arith, integer, +ℤ_parts (marked n (λ i. 1) (λ i. above (u i))) (marked n (λ i. 1) (λ i. below (u i))), ≡_to_parts (both_sides n (λ i. 1) u ∙ sum_ones n))))
        (≤ℤ_or-<ℤ (marked n (λ i. 1) (λ i. above (u i))) (pos (n / 2)))
      where
        at_most : (w : ℕ → ℕ) → positives n u ≤ℤ marked n M w → marked n (λ i. 1) w ≤ℤ pos (n / 2) → (pos 2 *ℤ positives n u) ≤ℤ pos (2 * c * (n / 2))
        at_most w h k =
            let b : positives n u ≤ℤ (pos c *ℤ marked n (λ i. 1) w) = ≤ℤ_trans h (≤ℤ_reflexive (marked_equal n c M w equal)) in
            certificate (positives n u ∷ pos c ∷ marked n (λ i. 1) w ∷ pos (n / 2) ∷ []) (con (pos 2) ⊗ x₀) (con (pos 2) ⊗ x₁ ⊗ x₃)
            (con (pos 2) ⊗ (x₁ ⊗ x₂ ⊖ x₀) ⊕ con (pos 2) ⊗ (x₁ ⊗ (x₃ ⊖ x₂))) refl (search positivity)

-- ---- the weighed sum
module _ (low high : ℤ) where
  -- at a place
  weighed_place : (z g : ℤ) → (0 < pos_part z → low ≤ℤ g) → (0 < neg_part z → g ≤ℤ high) → (low *ℤ pos (pos_part z) -ℤ high *ℤ pos (neg_part z)) ≤ℤ (z *ℤ g)
  weighed_place (pos zero) g h k =
      certificate (low ∷ high ∷ g ∷ []) (x₀ ⊗ con (pos 0) ⊖ x₁ ⊗ con (pos 0)) (con (pos 0) ⊗ x₂) (con (pos 0)) refl (≤ℤ_refl (pos 0))
  weighed_place (pos (suc n)) g h k =
      let l : low ≤ℤ g = h (omega arith) in
      certificate (low ∷ high ∷ g ∷ pos (suc n) ∷ []) (x₀ ⊗ x₃ ⊖ x₁ ⊗ con (pos 0)) (x₃ ⊗ x₂) (x₃ ⊗ (x₂ ⊖ x₀)) refl (search positivity)
  weighed_place (negsuc n) g h k =
      let l : g ≤ℤ high = k (omega arith) in
      certificate (low ∷ high ∷ g ∷ pos (suc n) ∷ []) (x₀ ⊗ con (pos 0) ⊖ x₁ ⊗ x₃) (⊝ x₃ ⊗ x₂) (x₃ ⊗ (x₁ ⊖ x₂)) refl (search positivity)

  module _ (n : ℕ) (u g : ℕ → ℤ) (balanced : sum n u ≡ pos 0)
      (rises : (i : ℕ) → i < n → 0 < pos_part (u i) → low ≤ℤ g i) (falls : (i : ℕ) → i < n → 0 < neg_part (u i) → g i ≤ℤ high) where
    weighed_sum_lem : (low *ℤ positives n u -ℤ high *ℤ positives n u) ≤ℤ sum n (λ i. u i *ℤ g i)
    weighed_sum_lem =
        ≤ℤ_trans (≤ℤ_reflexive (sym parted))
        (sum_mono n (λ i. low *ℤ pos (pos_part (u i)) -ℤ high *ℤ pos (neg_part (u i))) (λ i. u i *ℤ g i) (λ i l. weighed_place (u i) (g i) (rises i l) (falls i l)))
      where
        parted : sum n (λ i. low *ℤ pos (pos_part (u i)) -ℤ high *ℤ pos (neg_part (u i))) ≡ low *ℤ positives n u -ℤ high *ℤ positives n u
        parted =
            sum--ℤ n (λ i. low *ℤ pos (pos_part (u i))) (λ i. high *ℤ pos (neg_part (u i)))
            ∙ (λ d. sum-*ℤ n low (λ i. pos (pos_part (u i))) d -ℤ sum-*ℤ n high (λ i. pos (neg_part (u i))) d)
            ∙ ap (λ z. low *ℤ positives n u -ℤ high *ℤ z) (balance n u balanced)

    -- twice the weighed sum is no lower than minus k · B, where high − low is at most k, and twice the positive parts sum to at most B
    pub balanced_bound : (k : ℕ) → (high -ℤ low) ≤ℤ pos k → (B : ℤ) → (pos 2 *ℤ positives n u) ≤ℤ B → neg_ℤ (pos k *ℤ B) ≤ℤ (pos 2 *ℤ sum n (λ i. u i *ℤ g i))
    balanced_bound k h B b =
        let t : pos 0 ≤ℤ positives n u = sum_nonneg n (λ i. pos (pos_part (u i))) (λ i l. pos_nonneg (pos_part (u i))) in
        let w = weighed_sum_lem in
        certificate (sum n (λ i. u i *ℤ g i) ∷ positives n u ∷ low ∷ high ∷ pos k ∷ B ∷ []) (⊝ (x₄ ⊗ x₅)) (con (pos 2) ⊗ x₀)
        (con (pos 2) ⊗ (x₀ ⊖ (x₂ ⊗ x₁ ⊖ x₃ ⊗ x₁)) ⊕ con (pos 2) ⊗ (x₁ ⊗ (x₄ ⊖ (x₃ ⊖ x₂))) ⊕ x₄ ⊗ (x₅ ⊖ con (pos 2) ⊗ x₁)) refl (search positivity)
