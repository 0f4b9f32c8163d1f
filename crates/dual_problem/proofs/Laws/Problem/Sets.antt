-- The low set is the up set of the opposite labels, so that what holds of the one holds of the other; and document 01: "With both labels
-- present and a feasible, neither set is empty." The up set needs an item that was looked up, the low set one that was passed over, each
-- of a ceiling of 1 or more. Assumes nothing.
use mathlib.Core.Path.{◌≡◌, refl, sym, ◌∙◌, ap, subst}
use mathlib.Core.Bool.{true, false}
use mathlib.Core.List.{[], ◌∷◌}
use mathlib.Core.Option.{Option, none, some}
use Prim.Native.Nat.{ℕ, ◌≤◌, ◌<◌}
use native.Mathlib.Omega.{arith}
use borrow.Author.Tests.{ltb-false}
use lib.Dec.{ltb}
use lib.IntN.{ℤ, pos, negsuc, neg_ℤ, ◌*ℤ◌, *ℤ_comm}
use lib.Signed.{◌≤ℤ◌, lt_z}
use Rattle.integers.proofs.Laws.Solver.{con, ⊝◌, ◌⊗◌, x₀, solve}
use Rattle.integers.proofs.Laws.Linear.{integer, ≡_to_parts, *ℤ_parts}
use Rattle.integers.proofs.Laws.Sum.{sum_cong, sum-neg_ℤ}
use Rattle.integers.proofs.Laws.Sum.Places.{sum_term}
use Rattle.integers.specs.Extremum.{first}
use Rattle.integers.proofs.Laws.Extremum.{attained, greatest_bounds, gt_z_strict, least_bounds, lt_z_strict}
use Rattle.integers.proofs.Laws.Extremum.First.{first_sound, first_none}
use Rattle.training_file.specs.declared.item.Label.{Label}
use Rattle.training_file.specs.declared.item.Label.TheVariants.{LookedUp, PassedOver}
use Rattle.training_file.specs.Item.{opposite}
use Rattle.dual_problem.specs.Problem.{LabelsPresent, ThresholdsAttained, Problem, Feasible, b_low, b_up, gradient, sign, y, in_up, in_low, up, low}

-- ---- the low set in document 01's words: "y = +1 with a > 0, or y = −1 with a < c"
pub low_looked_up : (a c : ℕ) → in_low LookedUp a c ≡ ltb 0 a
low_looked_up a c = refl

pub low_passed_over : (a c : ℕ) → in_low PassedOver a c ≡ ltb a c
low_passed_over a c = refl

-- ---- the opposite labels
pub opposite_sign : (l : Label) (z : ℤ) → sign (opposite l) *ℤ z ≡ neg_ℤ (sign l *ℤ z)
opposite_sign LookedUp z = solve (z ∷ []) (con (negsuc 0) ⊗ x₀) (⊝ (con (pos 1) ⊗ x₀)) refl
opposite_sign PassedOver z = solve (z ∷ []) (con (pos 1) ⊗ x₀) (⊝ (con (negsuc 0) ⊗ x₀)) refl

-- the problem with each label exchanged for the opposite one: feasible multipliers stay feasible
abbrev opposite_problem : Problem → Problem
opposite_problem P = record { count = P.count; label = λ i. opposite (P.label i); kernel = P.kernel; grid = P.grid; ceiling = P.ceiling }

opposite_feasible : {P : Problem} {a : ℕ → ℕ} → Feasible P a → Feasible (opposite_problem P) a
opposite_feasible {P} {a} h =
    record {
      within = h.within;
      balanced =
          sum_cong P.count (λ i. pos (a i) *ℤ y (opposite_problem P) i) (λ i. neg_ℤ (pos (a i) *ℤ y P i))
          (λ i l. *ℤ_comm (pos (a i)) (y (opposite_problem P) i) ∙ opposite_sign (P.label i) (pos (a i)) ∙ ap neg_ℤ (*ℤ_comm (y P i) (pos (a i))))
          ∙ sum-neg_ℤ P.count (λ i. pos (a i) *ℤ y P i) ∙ ap neg_ℤ h.balanced;
    }

-- ---- at a place: a multiplier a of a ceiling c
-- outside the up set a × y isn't negative, and with a ceiling of 1 or more it is 1 or more where the item was looked up
up_term : (l : Label) (a c : ℕ) → in_up l a c ≡ false → pos 0 ≤ℤ (pos a *ℤ sign l)
up_term LookedUp a c h = omega (arith, integer)
up_term PassedOver a c h = omega (arith, integer, ltb-false 0 a h, *ℤ_parts (pos a) (negsuc 0))

up_full : (a c : ℕ) → in_up LookedUp a c ≡ false → 1 ≤ c → pos 1 ≤ℤ (pos a *ℤ pos 1)
up_full a c h k = omega (arith, integer, ltb-false a c h)

-- ---- neither set is empty
module _ (P : Problem) (a : ℕ → ℕ) (feasible : Feasible P a) (i : ℕ) (within : i < P.count) (positive : 1 ≤ P.ceiling i) where
  pub up_inhabited : P.label i ≡ LookedUp → (k : ℕ) × (k < P.count) × (up P a k ≡ true)
  up_inhabited looked_up_lem = by_place (first P.count (up P a)) refl
    where
      by_place : (o : Option ℕ) → first P.count (up P a) ≡ o → (k : ℕ) × (k < P.count) × (up P a k ≡ true)
      by_place (some k) e = let f = first_sound (up P a) e in (k, f.within, f.passes)
      by_place none e =
          let out = first_none (up P a) e in
          let t = sum_term P.count i (λ k. pos (a k) *ℤ y P k) within (λ k l. up_term (P.label k) (a k) (P.ceiling k) (out k l)) in
          let f : pos 1 ≤ℤ (pos (a i) *ℤ y P i) =
          subst (λ l. in_up l (a i) (P.ceiling i) ≡ false → pos 1 ≤ℤ (pos (a i) *ℤ sign l)) (sym looked_up_lem) (λ h. up_full (a i) (P.ceiling i) h positive) (out i within)
          in
          absurd (omega (arith, integer, ≡_to_parts feasible.balanced))

module _ (P : Problem) (a : ℕ → ℕ) (feasible : Feasible P a) (i : ℕ) (within : i < P.count) (positive : 1 ≤ P.ceiling i) where
  pub low_inhabited : P.label i ≡ PassedOver → (k : ℕ) × (k < P.count) × (low P a k ≡ true)
  low_inhabited passed_over = up_inhabited (opposite_problem P) a (opposite_feasible feasible) i within positive (ap opposite passed_over)

-- ---- the thresholds of feasible multipliers
pub thresholds_attained : (P : Problem) (a : ℕ → ℕ) → Feasible P a → LabelsPresent P → ThresholdsAttained P a (b_low P a) (b_up P a)
thresholds_attained P a feasible present =
    let l = present PassedOver in
    let u = present LookedUp in
    let lower = low_inhabited P a feasible l.0 l.1 l.3 l.2 in
    let upper = up_inhabited P a feasible u.0 u.1 u.3 u.2 in
    let at_low = attained P.count (low P a) (gradient P a) lower.1 lower.2 (λ p q. lt_z q p) gt_z_strict in
    let at_up = attained P.count (up P a) (gradient P a) upper.1 upper.2 lt_z lt_z_strict in
    record {
      lower_attained = (at_low.0, at_low.1.within, at_low.1.passes, at_low.2);
      lower_greatest = λ i m h. greatest_bounds P.count (low P a) (gradient P a) m h;
      upper_attained = (at_up.0, at_up.1.within, at_up.1.passes, at_up.2);
      upper_least = λ i m h. least_bounds P.count (up P a) (gradient P a) m h;
    }
