-- The distance bound of demand 3: no feasible multipliers, on the grid or on a finer one, have an objective below that of feasible
-- multipliers a by more than the gap times the sum of the items' ceilings, nor, where these are all c, by more than 2 × gap × c × ⌊n/2⌋. Of
-- the kernel it uses only that its values are a Gram form. Assumes nothing.
use mathlib.Core.Path.{◌≡◌, refl, sym, ◌∙◌, ap, subst}
use mathlib.Core.Logic.{◌↔◌}
use mathlib.Core.Bool.{true}
use mathlib.Core.List.{[], ◌∷◌}
use Prim.Native.Nat.{ℕ, ◌*◌, ◌/◌, ◌≤◌, ◌<◌}
use native.Mathlib.Nat.{mul-le-mul_left, lt_of_mul-lt-mul_left}
use native.Mathlib.Omega.{arith}
use borrow.Author.Tests.{lt-ltb}
use lib.IntN.{ℤ, pos, negsuc, neg_ℤ, nat_abs, ◌+ℤ◌, ◌-ℤ◌, ◌*ℤ◌}
use lib.Dec.{ltb}
use lib.Signed.{◌≤ℤ◌, ≤ℤ_refl}
use Rattle.integers.proofs.Laws.Solver.{con, ⊝◌, ◌⊕◌, ◌⊗◌, ◌⊖◌, x₀, x₁, x₂, x₃, x₄, x₅, solve}
use Rattle.integers.proofs.Laws.Linear.{integer, ≡_to_parts, +ℤ_parts, pos_part, neg_part, -ℤ-parts, neg_ℤ_parts, *ℤ_parts, nat_abs_parts, one_part}
use Rattle.integers.proofs.Laws.Bounds.{nat_abs-*ℤ}
use Rattle.integers.proofs.Laws.Order.{≤ℤ_reflexive, ≤ℤ_trans, positivity, certificate}
use Rattle.integers.specs.Sum.{sum}
use Rattle.integers.proofs.Laws.Sum.{sum_cong, sum-*ℤ, sum--ℤ}
use Rattle.integers.specs.Gram.{Gram, quadratic}
use Rattle.integers.proofs.Laws.Gram.{quadratic_nonneg}
use Rattle.integers.proofs.Laws.Extremum.{least_bounds, greatest_bounds}
use Rattle.integers.proofs.Laws.Sum.Balanced.{balanced_bound, positives, positives_half, positives_sum}
use Rattle.training_file.specs.declared.item.Label.{Label}
use Rattle.training_file.specs.declared.item.Label.TheVariants.{LookedUp, PassedOver}
use Rattle.training_file.specs.Item.{opposite}
use Rattle.dual_problem.specs.Problem.{BoundedDistance, EqualCeilings, LabelsPresent, double_sum, finer_objective, Problem, Feasible, Finer, WithinDistance, sign, y, gradient, up, low, in_up, in_low, b_up, b_low, objective, gap, not_below_zero}
use Rattle.dual_problem.proofs.Laws.Problem.{change, expansion}
use Rattle.dual_problem.proofs.Laws.Problem.Sets.{opposite_sign, thresholds_attained}

-- ---- at a place: a multiplier a of a ceiling c, and v of m times that ceiling
module _ (m a c v : ℕ) (inside : a ≤ c) (finer : v ≤ m * c) where
  -- v − m × a, before the label's sign
  rise : ℤ
  rise = pos v -ℤ pos m *ℤ pos a

  -- the change is at most m times the ceiling in size
  change_size : (l : Label) → nat_abs (sign l *ℤ rise) ≤ m * c
  unfolding rise
  change_size LookedUp = omega (arith, nat_abs-*ℤ (pos 1) rise, nat_abs_parts rise, -ℤ-parts (pos v) (pos (m * a)), one_part rise, mul-le-mul_left m inside)
  change_size PassedOver = omega (arith, nat_abs-*ℤ (negsuc 0) rise, nat_abs_parts rise, -ℤ-parts (pos v) (pos (m * a)), one_part rise, mul-le-mul_left m inside)

  -- a multiplier that rises is below its ceiling, one that falls is above 0
  rises : m * a < v → ltb a c ≡ true
  rises h = lt-ltb a c (lt_of_mul-lt-mul_left m (omega arith))

  falls : v < m * a → ltb 0 a ≡ true
  falls h = lt-ltb 0 a (lt_of_mul-lt-mul_left m (omega arith))

  -- where the change is positive the place is in the up set, where it is negative in the low set
  change_up : (l : Label) → 0 < pos_part (sign l *ℤ rise) → in_up l a c ≡ true
  unfolding rise
  change_up LookedUp h = rises (omega (arith, *ℤ_parts (pos 1) rise, -ℤ-parts (pos v) (pos (m * a)), one_part (pos 1 *ℤ rise)))
  change_up PassedOver h = falls (omega (arith, *ℤ_parts (negsuc 0) rise, -ℤ-parts (pos v) (pos (m * a)), one_part (negsuc 0 *ℤ rise)))

  change_low : (l : Label) → 0 < neg_part (sign l *ℤ rise) → in_low l a c ≡ true
  change_low l h = change_up (opposite l) (rw (opposite_sign l rise) (omega (arith, neg_ℤ_parts (sign l *ℤ rise), one_part (sign l *ℤ rise), one_part (neg_ℤ (sign l *ℤ rise)))))

-- ---- the gap: "the lower threshold answered minus the upper one answered, or zero if that is negative"
pub gap_difference : (lower upper : ℤ) → upper ≤ℤ lower → pos (gap lower upper) ≡ lower -ℤ upper
gap_difference lower upper h = by_sign (lower -ℤ upper) refl
  where
    by_sign : (z : ℤ) → lower -ℤ upper ≡ z → pos (not_below_zero z) ≡ z
    by_sign (pos n) e = refl
    by_sign (negsuc n) e = absurd (omega (arith, integer, -ℤ-parts lower upper))

pub gap_zero : (lower upper : ℤ) → lower ≤ℤ upper → gap lower upper ≡ 0
gap_zero lower upper h = by_sign (lower -ℤ upper) refl
  where
    by_sign : (z : ℤ) → lower -ℤ upper ≡ z → not_below_zero z ≡ 0
    by_sign (pos n) e = omega (arith, integer, -ℤ-parts lower upper)
    by_sign (negsuc n) e = refl

gap_bounds : (lower upper : ℤ) → (lower -ℤ upper) ≤ℤ pos (gap lower upper)
gap_bounds lower upper = by_sign (lower -ℤ upper)
  where
    by_sign : (z : ℤ) → z ≤ℤ pos (not_below_zero z)
    by_sign (pos n) = ≤ℤ_refl (pos n)
    by_sign (negsuc n) = record { le = tt }

-- ---- the bound
module _ (P : Problem) (gram : Gram P.count P.kernel) (a : ℕ → ℕ) (feasible : Feasible P a) where
  module _ (m : ℕ) (v : ℕ → ℕ) (finer : Finer P m v) where
    change_balanced : sum P.count (change P m a v) ≡ pos 0
    change_balanced =
        sum_cong P.count (change P m a v) (λ i. pos (v i) *ℤ y P i -ℤ pos m *ℤ (pos (a i) *ℤ y P i))
        (λ i l. solve (y P i ∷ pos (v i) ∷ pos m ∷ pos (a i) ∷ []) (x₀ ⊗ (x₁ ⊖ x₂ ⊗ x₃)) (x₁ ⊗ x₀ ⊖ x₂ ⊗ (x₃ ⊗ x₀)) refl)
        ∙ sum--ℤ P.count (λ i. pos (v i) *ℤ y P i) (λ i. pos m *ℤ (pos (a i) *ℤ y P i))
        ∙ (λ d. finer.balanced d -ℤ (sum-*ℤ P.count (pos m) (λ i. pos (a i) *ℤ y P i) ∙ ap (λ z. pos m *ℤ z) feasible.balanced) d)
        ∙ solve (pos m ∷ []) (con (pos 0) ⊖ x₀ ⊗ con (pos 0)) (con (pos 0)) refl

    -- the change at a place is at most m times the place's ceiling in size
    change_within : (i : ℕ) → i < P.count → nat_abs (change P m a v i) ≤ m * P.ceiling i
    unfolding rise
    change_within i l = change_size m (a i) (P.ceiling i) (v i) (feasible.within i l) (finer.within i l) (P.label i)

    -- twice the sum of the positive changes
    abbrev twice : ℤ
    twice = pos 2 *ℤ positives P.count (change P m a v)

    -- it is at most m times the sum of all ceilings, and where these are all c, at most m times 2 × c × ⌊n/2⌋
    twice_sum : twice ≤ℤ (pos m *ℤ sum P.count (λ i. pos (P.ceiling i)))
    twice_sum =
        ≤ℤ_trans (positives_sum P.count (change P m a v) change_balanced (λ i. m * P.ceiling i) change_within)
        (≤ℤ_reflexive (sum-*ℤ P.count (pos m) (λ i. pos (P.ceiling i))))

    twice_half : (c : ℕ) → EqualCeilings P c → twice ≤ℤ (pos m *ℤ pos (2 * c * (P.count / 2)))
    twice_half c equal =
        ≤ℤ_trans (positives_half P.count (change P m a v) change_balanced (λ i. m * P.ceiling i) change_within (m * c) (λ i l. ap (λ k. m * k) (equal i l)))
        (≤ℤ_reflexive (solve (pos m ∷ pos c ∷ pos (P.count / 2) ∷ []) (con (pos 2) ⊗ (x₀ ⊗ x₁) ⊗ x₂) (x₀ ⊗ (con (pos 2) ⊗ x₁ ⊗ x₂)) refl))

    -- the gradient along the change
    gradient_bound : (k : ℤ) → twice ≤ℤ (pos m *ℤ k) → neg_ℤ (pos (gap (b_low P a) (b_up P a)) *ℤ (pos m *ℤ k)) ≤ℤ (pos 2 *ℤ sum P.count (λ i. change P m a v i *ℤ gradient P a i))
    unfolding rise
    gradient_bound k few =
        balanced_bound (b_up P a) (b_low P a) P.count (change P m a v) (gradient P a) change_balanced
        (λ i l h. least_bounds P.count (up P a) (gradient P a) l (change_up m (a i) (P.ceiling i) (v i) (feasible.within i l) (finer.within i l) (P.label i) h))
        (λ i l h. greatest_bounds P.count (low P a) (gradient P a) l (change_low m (a i) (P.ceiling i) (v i) (feasible.within i l) (finer.within i l) (P.label i) h))
        (gap (b_low P a) (b_up P a)) (gap_bounds (b_low P a) (b_up P a)) (pos m *ℤ k) few

    -- gap × k, where twice the sum of the positive changes is at most m × k
    finer_bound : (k : ℤ) → twice ≤ℤ (pos m *ℤ k)
        → (pos (m * m) *ℤ objective P a) ≤ℤ (finer_objective P m v +ℤ pos (m * m) *ℤ (pos (gap (b_low P a) (b_up P a)) *ℤ k))
    finer_bound k few =
        let q : pos 0 ≤ℤ quadratic P.count P.kernel (change P m a v) = quadratic_nonneg gram (change P m a v) in
        let w = gradient_bound k few in
        subst (λ z. (pos (m * m) *ℤ objective P a) ≤ℤ (z +ℤ pos (m * m) *ℤ (pos (gap (b_low P a) (b_up P a)) *ℤ k))) (sym (expansion P gram m a v))
        (certificate (objective P a ∷ quadratic P.count P.kernel (change P m a v) ∷ sum P.count (λ i. change P m a v i *ℤ gradient P a i) ∷ pos m ∷ pos (gap (b_low P a) (b_up P a)) ∷ k ∷ [])
        (x₃ ⊗ x₃ ⊗ x₀) (x₃ ⊗ x₃ ⊗ x₀ ⊕ (x₁ ⊕ con (pos 2) ⊗ x₃ ⊗ x₂) ⊕ x₃ ⊗ x₃ ⊗ (x₄ ⊗ x₅))
        (x₁ ⊕ x₃ ⊗ (con (pos 2) ⊗ x₂ ⊖ ⊝ (x₄ ⊗ (x₃ ⊗ x₅)))) refl (search positivity))

-- ---- "m' = 1 is the grid itself"
pub finer_one : (P : Problem) (v : ℕ → ℕ) → Finer P 1 v ↔ Feasible P v
finer_one P v = (
  (λ h. record { within = λ i l. omega (arith, h.within i l); balanced = h.balanced }),
  (λ h. record { within = λ i l. omega (arith, h.within i l); balanced = h.balanced }),
)

pub finer_one_objective : (P : Problem) (v : ℕ → ℕ) → finer_objective P 1 v ≡ objective P v
unfolding finer_objective objective
finer_one_objective P v =
    solve (double_sum P v ∷ pos P.grid ∷ sum P.count (λ i. pos (v i)) ∷ []) (x₀ ⊖ con (pos 2) ⊗ x₁ ⊗ con (pos 1) ⊗ x₂) (x₀ ⊖ con (pos 2) ⊗ x₁ ⊗ x₂) refl

-- ---- gap × k, where twice the sum of the positive changes is at most m × k on every grid
module _ (P : Problem) (gram : Gram P.count P.kernel) (a : ℕ → ℕ) (feasible : Feasible P a) (k : ℤ)
    (few : (m : ℕ) (v : ℕ → ℕ) → Finer P m v → (pos 2 *ℤ positives P.count (change P m a v)) ≤ℤ (pos m *ℤ k)) where
  distance : ℤ
  distance = pos (gap (b_low P a) (b_up P a)) *ℤ k

  finer_grids : (m : ℕ) (v : ℕ → ℕ) → Finer P m v → (pos (m * m) *ℤ objective P a) ≤ℤ (finer_objective P m v +ℤ pos (m * m) *ℤ distance)
  unfolding distance
  finer_grids m v finer = finer_bound P gram a feasible m v finer k (few m v finer)

  this_grid : (v : ℕ → ℕ) → Feasible P v → objective P a ≤ℤ (objective P v +ℤ distance)
  this_grid v reached =
      let h = finer_grids 1 v ((finer_one P v).1 reached) in
      let e = finer_one_objective P v in
      omega (arith, integer, ≡_to_parts e, *ℤ_parts (pos 1) (objective P a), *ℤ_parts (pos 1) distance, +ℤ_parts (finer_objective P 1 v) (pos 1 *ℤ distance), +ℤ_parts (objective P v) distance)

  within_distance : WithinDistance (pos (gap (b_low P a) (b_up P a)) *ℤ k) P a
  unfolding distance
  within_distance = record { this_grid = this_grid; finer_grids = λ m positive v finer. finer_grids m v finer }

-- ---- demand 3
pub bounded_distance : (P : Problem) → Gram P.count P.kernel → LabelsPresent P → (a : ℕ → ℕ) → Feasible P a → BoundedDistance P (b_low P a) (b_up P a) a
bounded_distance P gram present a feasible =
    record {
      feasible = feasible;
      thresholds = thresholds_attained P a feasible present;
      always = within_distance P gram a feasible (sum P.count (λ i. pos (P.ceiling i))) (twice_sum P gram a feasible);
      equal_ceilings =
          λ c equal. subst (λ d. WithinDistance d P a)
          (solve (pos (gap (b_low P a) (b_up P a)) ∷ pos c ∷ pos (P.count / 2) ∷ []) (x₀ ⊗ (con (pos 2) ⊗ x₁ ⊗ x₂)) (con (pos 2) ⊗ x₀ ⊗ x₁ ⊗ x₂) refl)
          (within_distance P gram a feasible (pos (2 * c * (P.count / 2))) (λ m v finer. twice_half P gram a feasible m v finer c equal));
    }
