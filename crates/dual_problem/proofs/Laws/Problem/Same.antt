-- Multipliers that are the same below n have the same gradient, sets, thresholds and objective. Assumes nothing.
use mathlib.Core.Path.{◌≡◌, ap}
use Prim.Native.Nat.{ℕ, ◌<◌}
use lib.IntN.{pos, ◌-ℤ◌, ◌*ℤ◌}
use lib.Signed.{lt_z}
use Rattle.integers.proofs.Laws.Sum.{sum_cong, sum_cong₂}
use Rattle.integers.specs.Extremum.{value_at}
use Rattle.integers.proofs.Laws.Extremum.{lt_z_strict, gt_z_strict, extreme_cong}
use Rattle.dual_problem.specs.Problem.{Problem, y, gradient, in_up, in_low, up, low, b_up, b_low, double_sum, objective}

module _ (P : Problem) (f g : ℕ → ℕ) (same : (k : ℕ) → k < P.count → f k ≡ g k) where
  pub gradient_cong : (i : ℕ) → gradient P f i ≡ gradient P g i
  unfolding gradient
  gradient_cong i =
      ap (λ z. z -ℤ pos P.grid *ℤ y P i)
      (sum_cong P.count (λ j. pos (f j) *ℤ y P j *ℤ P.kernel i j) (λ j. pos (g j) *ℤ y P j *ℤ P.kernel i j) (λ j l d. pos (same j l d) *ℤ y P j *ℤ P.kernel i j))

  pub objective_cong : objective P f ≡ objective P g
  unfolding objective double_sum
  objective_cong =
      λ d. sum_cong₂ P.count P.count (λ i j. pos (f i) *ℤ pos (f j) *ℤ y P i *ℤ y P j *ℤ P.kernel i j) (λ i j. pos (g i) *ℤ pos (g j) *ℤ y P i *ℤ y P j *ℤ P.kernel i j) (λ i j l m e. pos (same i l e) *ℤ pos (same j m e) *ℤ y P i *ℤ y P j *ℤ P.kernel i j) d
      -ℤ pos 2 *ℤ pos P.grid *ℤ sum_cong P.count (λ i. pos (f i)) (λ i. pos (g i)) (λ i l e. pos (same i l e)) d

  pub up_cong : (i : ℕ) → i < P.count → up P f i ≡ up P g i
  up_cong i l = ap (λ w. in_up (P.label i) w (P.ceiling i)) (same i l)

  pub low_cong : (i : ℕ) → i < P.count → low P f i ≡ low P g i
  low_cong i l = ap (λ w. in_low (P.label i) w (P.ceiling i)) (same i l)

  pub b_up_cong : b_up P f ≡ b_up P g
  b_up_cong = λ d. value_at (λ k. gradient_cong k d) (extreme_cong lt_z lt_z_strict P.count (up P f) (up P g) (gradient P f) (gradient P g) up_cong (λ i l. gradient_cong i) d)

  pub b_low_cong : b_low P f ≡ b_low P g
  b_low_cong = λ d. value_at (λ k. gradient_cong k d) (extreme_cong (λ p q. lt_z q p) gt_z_strict P.count (low P f) (low P g) (gradient P f) (gradient P g) low_cong (λ i l. gradient_cong i) d)
