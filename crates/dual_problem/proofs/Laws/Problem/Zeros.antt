-- Multipliers that are all 0, where training starts: they are feasible, and with both labels present the thresholds are S and −S. Assumes
-- nothing.
use mathlib.Core.Path.{◌≡◌, refl, ◌∙◌, ap, subst}
use mathlib.Core.Bool.{true}
use mathlib.Core.List.{[], ◌∷◌}
use Prim.Native.Nat.{ℕ, ◌<◌}
use native.Mathlib.Omega.{arith}
use borrow.Author.Tests.{ltb-true}
use lib.IntN.{ℤ, pos, negsuc, neg_ℤ, ◌-ℤ◌, ◌*ℤ◌, zero-*ℤ}
use Rattle.integers.proofs.Laws.Solver.{con, ⊝◌, ◌⊗◌, ◌⊖◌, x₀, solve}
use Rattle.integers.specs.Sum.{sum}
use Rattle.integers.proofs.Laws.Sum.{sum_zero}
use Rattle.training_file.specs.declared.item.Label.{Label}
use Rattle.training_file.specs.declared.item.Label.TheVariants.{LookedUp, PassedOver}
use Rattle.dual_problem.specs.Problem.{LabelsPresent, Problem, Feasible, b_low, b_up, gradient, sign, y, in_up, in_low}
use Rattle.dual_problem.proofs.Laws.Problem.Sets.{thresholds_attained}

-- with a multiplier of 0 an item of the up set was looked up, one of the low set passed over
up_zero : (label : Label) (c : ℕ) → in_up label 0 c ≡ true → label ≡ LookedUp
up_zero LookedUp c h = refl
up_zero PassedOver c h = absurd (omega (arith, ltb-true 0 0 h))

low_zero : (label : Label) (c : ℕ) → in_low label 0 c ≡ true → label ≡ PassedOver
low_zero LookedUp c h = absurd (omega (arith, ltb-true 0 0 h))
low_zero PassedOver c h = refl

module _ (P : Problem) (a : ℕ → ℕ) (zeros : (i : ℕ) → i < P.count → a i ≡ 0) where
  pub zeros_feasible : Feasible P a
  zeros_feasible =
      record {
        within = λ i l. omega (arith, zeros i l);
        balanced = sum_zero P.count (λ i. pos (a i) *ℤ y P i) (λ i l. ap (λ w. pos w *ℤ y P i) (zeros i l) ∙ zero-*ℤ (y P i));
      }

  pub zeros_weighed : (k : ℕ → ℤ) → sum P.count (λ j. pos (a j) *ℤ y P j *ℤ k j) ≡ pos 0
  zeros_weighed k =
      sum_zero P.count (λ j. pos (a j) *ℤ y P j *ℤ k j)
      (λ j l. ap (λ w. pos w *ℤ y P j *ℤ k j) (zeros j l) ∙ ap (λ z. z *ℤ k j) (zero-*ℤ (y P j)) ∙ zero-*ℤ (k j))

  gradient_zeros : (i : ℕ) → gradient P a i ≡ pos 0 -ℤ pos P.grid *ℤ y P i
  unfolding gradient
  gradient_zeros i = ap (λ z. z -ℤ pos P.grid *ℤ y P i) (zeros_weighed (P.kernel i))

  -- G of an item with a label
  labelled : (i : ℕ) {label : Label} → P.label i ≡ label → gradient P a i ≡ pos 0 -ℤ pos P.grid *ℤ sign label
  labelled i e = gradient_zeros i ∙ ap (λ l. pos 0 -ℤ pos P.grid *ℤ sign l) e

  module _ (present : LabelsPresent P) where
    pub b_up_zeros : b_up P a ≡ neg_ℤ (pos P.grid)
    b_up_zeros =
        let k = (thresholds_attained P a zeros_feasible present).upper_attained in
        let looked_up_lem = up_zero (P.label k.0) (P.ceiling k.0) (subst (λ w. in_up (P.label k.0) w (P.ceiling k.0) ≡ true) (zeros k.0 k.1) k.2) in
        k.3 ∙ labelled k.0 looked_up_lem ∙ solve (pos P.grid ∷ []) (con (pos 0) ⊖ x₀ ⊗ con (pos 1)) (⊝ x₀) refl

    pub b_low_zeros : b_low P a ≡ pos P.grid
    b_low_zeros =
        let k = (thresholds_attained P a zeros_feasible present).lower_attained in
        let passed_over = low_zero (P.label k.0) (P.ceiling k.0) (subst (λ w. in_low (P.label k.0) w (P.ceiling k.0) ≡ true) (zeros k.0 k.1) k.2) in
        k.3 ∙ labelled k.0 passed_over ∙ solve (pos P.grid ∷ []) (con (pos 0) ⊖ x₀ ⊗ con (negsuc 0)) x₀ refl
