-- Laws of the overlap kernel: of features in their range its values are a Gram form, and 0 to 254 for each feature. Assumes nothing.
use mathlib.Core.Path.{◌≡◌, refl, sym, ◌∙◌, ap}
use mathlib.Core.Bool.{Bool, true, false, cond}
use mathlib.Core.List.{List}
use Prim.Native.Nat.{ℕ, suc, ◌+◌, ◌-◌, ◌*◌, ◌/◌, ◌%◌, ◌≤◌, ◌<◌}
use native.Mathlib.Omega.{arith}
use lib.IntN.{ℤ, pos, negsuc, nat_abs, ◌+ℤ◌, ◌*ℤ◌, +ℤ_idr, *ℤ_comm, *ℤ-zero}
use lib.ListN.{length, get_or}
use lib.Signed.{le_z, ◌≤ℤ◌}
use Rattle.integers.proofs.Laws.Linear.{integer, +ℤ_parts, nat_abs_parts, one_part}
use Rattle.integers.proofs.Laws.Order.{le_z_true, le_z_false, ≤ℤ-le_z, <ℤ-le_z, <ℤ_to-≤ℤ}
use Rattle.integers.proofs.Laws.Bounds.{sum_bound}
use Rattle.integers.specs.Range.{InRange}
use Rattle.integers.specs.Sum.{sum}
use Rattle.integers.proofs.Laws.Sum.{sum-append, sum_cong, sum-flatten, sum_nonneg, sum_ones, sum_zero}
use Rattle.integers.specs.Gram.{Gram}
use Rattle.training_file.specs.declared.item.Item.{Item}
use Rattle.training_file.specs.Item.{feature_most, item_in}
use Rattle.dual_problem.specs.Kernel.{FeaturesInRange, overlap, raised_by, raised_feature, raised_most, smaller, smaller_raised}

-- ---- the smaller of two numbers
-- what holds of either holds of it
pub smaller_either : (Q : ℤ → Type 0) (a b : ℤ) → (a ≤ℤ b → Q a) → (b ≤ℤ a → Q b) → Q (smaller a b)
smaller_either Q a b first second = by (le_z a b) refl
  where
    by : (t : Bool) → le_z a b ≡ t → Q (cond t a b)
    by true e = first (le_z_true a b e)
    by false e = second (<ℤ_to-≤ℤ (le_z_false a b e))

pub smaller_comm : (a b : ℤ) → smaller a b ≡ smaller b a
smaller_comm a b =
    smaller_either (λ v. v ≡ smaller b a) a b
    (λ h. smaller_either (λ v. a ≡ v) b a (λ k. omega (arith, integer)) (λ k. refl))
    (λ h. smaller_either (λ v. b ≡ v) b a (λ k. refl) (λ k. omega (arith, integer)))

-- ---- a raised feature is one of 0 to 254
raised_range : (x : ℤ) → nat_abs x ≤ feature_most → InRange (raised_feature x) raised_most
raised_range x h = (omega (arith, integer, +ℤ_parts x (pos raised_by), nat_abs_parts x), omega (arith, integer, +ℤ_parts x (pos raised_by), nat_abs_parts x))

-- ---- thresholds: of two numbers of 0 to N the smaller is the number of thresholds of 1 to N that both reach
-- 1 where a number reaches a threshold, else 0
abbrev reaches : ℤ → ℕ → ℤ
reaches v t = cond (le_z (pos t) v) (pos 1) (pos 0)

-- the threshold at a place below N
abbrev threshold : ℕ → ℕ
threshold place = suc place

-- 1 where both numbers reach the threshold at a place, else 0
abbrev both : ℤ → ℤ → ℕ → ℤ
both a b place = reaches a (threshold place) *ℤ reaches b (threshold place)

module _ (N : ℕ) where
  -- the first number is the smaller: both reach the thresholds up to it, and it reaches no other
  reached_by_both : (a b : ℤ) → InRange a N → a ≤ℤ b → sum N (both a b) ≡ a
  reached_by_both (negsuc a) b within h = absurd within.0.le
  reached_by_both (pos a) b within h =
      ap (λ k. sum k (both (pos a) b)) (omega (arith, integer, within.1)) ∙ sum-append a (N - a) (both (pos a) b)
      ∙ (λ d. (sum_cong a (both (pos a) b) (λ t. pos 1) up_to ∙ sum_ones a) d +ℤ sum_zero (N - a) (λ t. both (pos a) b (a + t)) past d)
      ∙ +ℤ_idr (pos a)
    where
      up_to : (t : ℕ) → t < a → both (pos a) b t ≡ pos 1
      up_to t l =
          let first : le_z (pos (threshold t)) (pos a) ≡ true = ≤ℤ-le_z {a = pos (threshold t)} {b = pos a} (omega (arith, integer)) in
          let second : le_z (pos (threshold t)) b ≡ true = ≤ℤ-le_z {a = pos (threshold t)} {b = b} (omega (arith, integer)) in
          rw (first, second)

      past : (t : ℕ) → t < N - a → both (pos a) b (a + t) ≡ pos 0
      past t l =
          let first : le_z (pos (threshold (a + t))) (pos a) ≡ false = <ℤ-le_z {a = pos (threshold (a + t))} {b = pos a} (omega (arith, integer)) in
          rw first (*ℤ_comm (pos 0) (reaches b (threshold (a + t))) ∙ *ℤ-zero (reaches b (threshold (a + t))))

  smaller_thresholds : (a b : ℤ) → InRange a N → InRange b N → sum N (both a b) ≡ smaller a b
  smaller_thresholds a b a-within b-within =
      smaller_either (λ v. sum N (both a b) ≡ v) a b (λ h. reached_by_both a b a-within h)
      (λ h. sum_cong N (both a b) (both b a) (λ t l. *ℤ_comm (reaches a (threshold t)) (reaches b (threshold t))) ∙ reached_by_both b a b-within h)

-- ---- the kernel
-- entry (p, t) of an item's vector is 1 where its raised feature p reaches t, else 0
pub overlap_gram : (d : ℕ) (items : List Item) → FeaturesInRange items → Gram (length items) (λ i j. overlap d (item_in items i).features (item_in items j).features)
overlap_gram d items range =
    record {
      rank = d * raised_most;
      feature = λ q i. reaches (value i (q / raised_most)) (threshold (q % raised_most));
      entry =
          λ i j l m. sum_cong d (λ p. smaller (value i p) (value j p)) (λ p. sum raised_most (both (value i p) (value j p)))
          (λ p k. sym (smaller_thresholds raised_most (value i p) (value j p) (within i l p) (within j m p)))
          ∙ sym (sum-flatten d raised_most (λ p t. both (value i p) (value j p) t));
    }
  where
    value : ℕ → ℕ → ℤ
    value i p = raised_feature (get_or (item_in items i).features p (pos 0))

    within : (i : ℕ) → i < length items → (p : ℕ) → InRange (value i p) raised_most
    within i l p = raised_range (get_or (item_in items i).features p (pos 0)) (range i l p)

-- a value is 0 to 254 for each feature in use
module _ (d : ℕ) (xs zs : List ℤ) (x_within : (p : ℕ) → nat_abs (get_or xs p (pos 0)) ≤ feature_most) (z_within : (p : ℕ) → nat_abs (get_or zs p (pos 0)) ≤ feature_most) where
  added : ℕ → ℤ
  added p = smaller_raised (get_or xs p (pos 0)) (get_or zs p (pos 0))

  added_range : (p : ℕ) → InRange (added p) raised_most
  unfolding added
  added_range p =
      smaller_either (λ v. InRange v raised_most) (raised_feature (get_or xs p (pos 0))) (raised_feature (get_or zs p (pos 0)))
      (λ h. raised_range (get_or xs p (pos 0)) (x_within p)) (λ h. raised_range (get_or zs p (pos 0)) (z_within p))

  added_size : (p : ℕ) → nat_abs (added p) ≤ raised_most
  added_size p = omega (arith, integer, nat_abs_parts (added p), one_part (added p), (added_range p).0, (added_range p).1)

  pub overlap_range : InRange (overlap d xs zs) (d * raised_most)
  unfolding added
  overlap_range = (sum_nonneg d added (λ p l. (added_range p).0), omega (arith, integer, nat_abs_parts (overlap d xs zs), sum_bound d added (λ p l. added_size p)))
