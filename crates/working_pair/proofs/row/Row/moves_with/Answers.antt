-- `working_pair::row::Row::moves_with` meets its contract. G is at most `gradient_most` in size, so twice a difference fits. Assumes nothing.
use mathlib.Core.Path.{◌≡◌, refl, sym, ◌∙◌, ap, subst}
use mathlib.Core.Bool.{true, false}
use mathlib.Core.List.{List}
use Prim.Native.Nat.{ℕ, ◌*◌, ◌≤◌, ◌<◌}
use native.Mathlib.Nat.{le_refl}
use native.Mathlib.Omega.{arith}
use lib.IntN.{ℤ, pos, nat_abs, ◌-ℤ◌, ◌*ℤ◌}
use lib.ListN.{get_or}
use lib.Signed.{le_z, lt_z, ◌≤ℤ◌}
use mir.Syntax.{w64}
use mir.Val.{to_z, of_z}
use Rattle.integers.proofs.Laws.Bounds.{*ℤ_bound, fits_width, reads_back}
use Rattle.integers.proofs.Laws.Linear.{integer, -ℤ-parts}
use Rattle.integers.proofs.Laws.Order.{le_z_true}
use Rattle.training_file.specs.Layout.{feature_count}
use Rattle.dual_problem.specs.declared.problem.FileProblem.{FileProblem}
use Rattle.dual_problem.specs.Size.{gradient_most, kernel_most}
use Rattle.dual_problem.specs.Kernel.{kernel_between}
use Rattle.dual_problem.specs.Problem.{Problem, gradient, at}
use Rattle.dual_problem.specs.Given.{count_in, problem_in}
use Rattle.dual_problem.proofs.Laws.Kernel.{kernel_reads, kernel_sized}
use Rattle.dual_problem.proofs.Laws.FileProblem.{kernel_size}
use Rattle.working_pair.specs.Step.{slope, moves}
use Rattle.working_pair.specs.Curvature.{curvature_between}
use Rattle.working_pair.specs.State.{State}
use Rattle.working_pair.specs.Pair.{Held}
use Rattle.working_pair.proofs.Laws.Step.{moves_needs_slope}
use Rattle.working_pair.proofs.Laws.State.{state_gram, slope_is, slope_size, slope_reads}
use Rattle.working_pair.proofs.row.Row.moves_with.Goals as goal

-- two places of a state
module _ {f : FileProblem} {a : List ℕ} {g : List ℤ} (s : State f a g) {i j : ℕ} (i_within : i < count_in f) (j_within : j < count_in f) where
  abbrev P : Problem
  P = problem_in f

  -- twice the slope, as the machine has it
  twice_is : pos 2 *ℤ to_z w64 (of_z w64 (to_z w64 (of_z w64 (get_or g i (pos 0))) -ℤ to_z w64 (of_z w64 (get_or g j (pos 0))))) ≡ pos 2 *ℤ slope P a i j
  twice_is = ap (λ z. pos 2 *ℤ z) (slope_reads s i_within j_within)

  twice_size : nat_abs (pos 2 *ℤ slope P a i j) ≤ 2 * (2 * gradient_most)
  twice_size = *ℤ_bound (pos 2) (slope P a i j) (le_refl 2) (slope_size s i_within j_within)

  -- where the slope is 0 or less the pair does not move
  flat : le_z (to_z w64 (of_z w64 (to_z w64 (of_z w64 (get_or g i (pos 0))) -ℤ to_z w64 (of_z w64 (get_or g j (pos 0)))))) (pos 0) ≡ true → moves P a i j ≡ false
  flat t =
      let falls : slope P a i j ≤ℤ pos 0 = le_z_true (slope P a i j) (pos 0) (sym (λ d. le_z (slope_reads s i_within j_within d) (pos 0)) ∙ t) in
      moves_needs_slope P (state_gram s) a i j (omega (arith, f.listed.counted)) (omega (arith, f.listed.counted))
      (omega (arith, integer, -ℤ-parts (gradient P (at a) i) (gradient P (at a) j)))

-- K_ii, as it is held
module _ {f : FileProblem} {i : ℕ} {xs : List ℤ} {k : ℤ} (held : Held f i xs k) where
  held_is : k ≡ kernel_between f.parameters xs xs
  held_is = held.kernel ∙ (λ d. kernel_between f.parameters (sym held.features d) (sym held.features d))

  held_size : f.parameters.used ≤ feature_count → nat_abs k ≤ kernel_most
  held_size used = subst (λ z. nat_abs z ≤ kernel_most) (sym held.kernel) (kernel_size f.file.now f.order.now (count_in f) f.parameters f.listed used i i held.within held.within)

pub overflow_sub-slope : goal.overflow_sub-slope
overflow_sub-slope c =
    let row = c.args.self.now in
    fits_width w64 (slope_is row.standing.state row.held.within c.requires) (omega (arith, slope_size row.standing.state row.held.within c.requires))

pub overflow_mul-result : goal.overflow_mul-result
overflow_mul-result c =
    let row = c.args.self.now in
    fits_width w64 (twice_is row.standing.state row.held.within c.requires) (omega (arith, twice_size row.standing.state row.held.within c.requires))

pub returns-then-slope-le0 : goal.returns-then-slope-le0
returns-then-slope-le0 c =
    let row = c.args.self.now in
    sym (flat row.standing.state row.held.within c.requires c.if-slope-le0.true)

pub curvature_with-eta-requires : goal.curvature_with-eta-requires
curvature_with-eta-requires c =
    let row = c.args.self.now in
    let used = row.standing.state.fit.used in
    let size : nat_abs row.kernel ≤ kernel_most = held_size row.held used in
    record {
      used = used;
      xs_long = omega (arith, used);
      zs_long = omega (arith, used);
      kernel = kernel_reads row.kernel size ∙ held_is row.held;
      kernel_size = kernel_sized row.kernel size;
    }

pub returns : goal.returns
returns c =
    let row = c.args.self.now in
    let s = row.standing.state in
    let l = row.held.within in
    let e = reads_back w64 refl (omega (arith, c.curvature_with-eta.ensures.1)) ∙ c.curvature_with-eta.ensures.0 ∙ (λ d. curvature_between row.standing.problem.now.parameters (row.held.features d) (c.item.ensures d).features) in
    λ d. lt_z (e d) (reads_back w64 (twice_is s l c.requires) (omega (arith, twice_size s l c.requires)) d)
