-- How large kernel values, gradients and the gap of a read file can be. Assumes nothing.
pub mod Read
use mathlib.Core.Bool.{Bool}
use mathlib.Core.Option.{Option, none, some}
use mathlib.Core.Path.{◌≡◌, refl}
use mathlib.Core.List.{List}
use Prim.Native.Nat.{ℕ, ◌+◌, ◌*◌, ◌≤◌, ◌<◌}
use native.Mathlib.Nat.{le_refl, le_trans, mul-le-mul, mul-le-mul_right}
use native.Mathlib.Omega.{arith}
use lib.IntN.{ℤ, pos, negsuc, nat_abs, ◌-ℤ◌, ◌*ℤ◌}
use lib.ListN.{get_or}
use lib.Signed.{lt_z}
use Rattle.integers.proofs.Laws.Bounds.{*ℤ_bound, -ℤ-bound, sum_bound}
use Rattle.integers.specs.Extremum.{extreme, value_at}
use Rattle.integers.proofs.Laws.Extremum.{Strict, lt_z_strict, gt_z_strict, extreme_sound}
use Rattle.integers.specs.Sum.{sum}
use Rattle.training_file.specs.declared.parameters.Parameters.{Parameters}
use Rattle.training_file.specs.declared.item.Label.{Label}
use Rattle.training_file.specs.declared.item.Label.TheVariants.{LookedUp, PassedOver}
use Rattle.training_file.specs.Parameters.{ceiling_most, grid_most, records_most}
use Rattle.training_file.specs.Layout.{feature_count, signed_most}
use Rattle.training_file.specs.Item.{item_in}
use Rattle.reading.specs.Reading.{reading}
use Rattle.reading.specs.Calls.{items_in}
use Rattle.dual_problem.specs.Size.{feature_sum_most, gap_most, gradient_most, kernel_most, term_most}
use Rattle.dual_problem.specs.Kernel.{largest_feature_sum, largest_kernel}
use Rattle.dual_problem.proofs.Laws.Kernel.{kernel_bound}
use Rattle.dual_problem.specs.Problem.{Problem, sign, y, gap, gradient, not_below_zero, up, low, b_up, b_low, at}
use Rattle.dual_problem.specs.FileProblem.{Listed, MultipliersListed, problem_of}
use Rattle.dual_problem.specs.declared.problem.FileProblem.{FileProblem}
use Rattle.dual_problem.specs.Given.{MultipliersFit, count_in}

sign_size : (l : Label) → nat_abs (sign l) ≤ 1
sign_size LookedUp = le_refl 1
sign_size PassedOver = le_refl 1

-- a kernel value of d features is at most one of more
more_features : {d : ℕ} → d ≤ feature_count → largest_kernel d signed_most ≤ kernel_most
more_features {d} h = let k : largest_feature_sum d signed_most + 1 ≤ feature_sum_most + 1 = omega arith in mul-le-mul k k

module _ (file order : List ℕ) (n : ℕ) (p : Parameters) where
  pub kernel_size : Listed file order n → p.used ≤ feature_count → (i j : ℕ) → i < n → j < n → nat_abs ((problem_of file p).kernel i j) ≤ kernel_most
  kernel_size t h i j l m =
      le_trans
      (kernel_bound {F = signed_most} (omega arith) p.used (item_in (items_in (reading file)) i).features (item_in (items_in (reading file)) j).features (λ q k. a_byte i l q) (λ q k. a_byte j m q) p.kernel)
      (more_features h)
    where
      -- a feature in its range is one of 8 bits
      a_byte : (i : ℕ) → i < n → (q : ℕ) → nat_abs (get_or (item_in (items_in (reading file)) i).features q (pos 0)) ≤ signed_most
      a_byte i l q = le_trans (t.in_range i (omega (arith, t.counted)) q) (omega arith)

  pub gradient_size : (a : List ℕ) → MultipliersListed file order n p a → (i : ℕ) → i < n → nat_abs (gradient (problem_of file p) (at a) i) ≤ gradient_most
  unfolding gradient
  gradient_size a h i l =
      -ℤ-bound (sum P.count row) (pos p.grid *ℤ y P i) (le_trans (sum_bound P.count row term_size) (mul-le-mul_right term_most few))
      (*ℤ_bound (pos p.grid) (y P i) {A = grid_most} {B = 1} h.grid (sign_size (P.label i)))
    where
      P : Problem
      P = problem_of file p

      row : ℕ → ℤ
      row j = pos (at a j) *ℤ y P j *ℤ P.kernel i j

      few : P.count ≤ records_most
      few = omega (arith, h.table.few, h.table.counted)

      term_size : (j : ℕ) → j < P.count → nat_abs (row j) ≤ term_most
      term_size j m =
          let k : j < n = omega (arith, h.table.counted) in
          let w : nat_abs (pos (at a j) *ℤ y P j) ≤ ceiling_most = *ℤ_bound (pos (at a j)) (y P j) {A = ceiling_most} {B = 1} (h.small j k) (sign_size (P.label j)) in
          *ℤ_bound (pos (at a j) *ℤ y P j) (P.kernel i j) w
          (kernel_size h.table h.used i j l k)

  -- a threshold is a gradient, or 0 where its set is empty
  extreme_size : (before : ℤ → ℤ → Bool) → Strict before → (q : ℕ → Bool) (a : List ℕ) → MultipliersListed file order n p a → nat_abs (value_at (gradient (problem_of file p) (at a)) (extreme before (problem_of file p).count q (gradient (problem_of file p) (at a)))) ≤ gradient_most
  extreme_size before strict q a h = by (extreme before (problem_of file p).count q (gradient (problem_of file p) (at a))) refl
    where
      by : (o : Option ℕ) → extreme before (problem_of file p).count q (gradient (problem_of file p) (at a)) ≡ o → nat_abs (value_at (gradient (problem_of file p) (at a)) o) ≤ gradient_most
      by none e = omega arith
      by (some k) e = gradient_size a h k (omega (arith, h.table.counted, (extreme_sound before strict q (gradient (problem_of file p) (at a)) e).within))

  pub b_low_size : (a : List ℕ) → MultipliersListed file order n p a → nat_abs (b_low (problem_of file p) (at a)) ≤ gradient_most
  b_low_size a h = extreme_size (λ a b. lt_z b a) gt_z_strict (low (problem_of file p) (at a)) a h

  pub b_up_size : (a : List ℕ) → MultipliersListed file order n p a → nat_abs (b_up (problem_of file p) (at a)) ≤ gradient_most
  b_up_size a h = extreme_size lt_z lt_z_strict (up (problem_of file p) (at a)) a h

  pub gap_size : (a : List ℕ) → MultipliersListed file order n p a → gap (b_low (problem_of file p) (at a)) (b_up (problem_of file p) (at a)) ≤ gap_most
  gap_size a h = le_trans (by_sign (lower -ℤ upper)) (-ℤ-bound lower upper (b_low_size a h) (b_up_size a h))
    where
      lower : ℤ
      lower = b_low (problem_of file p) (at a)

      upper : ℤ
      upper = b_up (problem_of file p) (at a)

      by_sign : (z : ℤ) → not_below_zero z ≤ nat_abs z
      by_sign (pos k) = le_refl k
      by_sign (negsuc k) = omega arith

-- what is asked of multipliers where a problem is at hand is all that is asked of them
pub fit_listed : (f : FileProblem) (a : List ℕ) → MultipliersFit f a → MultipliersListed f.file.now f.order.now (count_in f) f.parameters a
fit_listed f a h = record { table = f.listed; used = h.used; grid = h.grid; long = h.long; small = h.small }
