-- `smo::run::decide` meets its contract: the thresholds found are those of the multipliers, and each return has the answers of the tests
-- before it. Assumes nothing.
use mathlib.Core.Path.{◌≡◌, sym, ◌∙◌, ap, subst}
use mathlib.Core.Bool.{Bool}
use mathlib.Core.List.{List}
use Prim.Native.Nat.{ℕ, ◌*◌, ◌≤◌}
use native.Mathlib.Omega.{arith}
use lib.IntN.{ℤ, pos, nat_abs, ◌+ℤ◌, ◌*ℤ◌}
use lib.ListN.{get_or}
use lib.Signed.{le_z}
use mir.Syntax.{w64}
use mir.Val.{to_z, of_z}
use Rattle.std.proofs.Common.{FitsSigned}
use Rattle.std.proofs.lemmas.Int.{ints}
use Rattle.training_file.specs.Parameters.{Ranges}
use Rattle.dual_problem.specs.Size.{gradient_most}
use Rattle.dual_problem.specs.declared.problem.FileProblem.{FileProblem}
use Rattle.dual_problem.specs.Given.{problem_in}
use Rattle.dual_problem.specs.Problem.{b_up, b_low, at}
use Rattle.dual_problem.proofs.Laws.FileProblem.{b_low_size, b_up_size, fit_listed}
use Rattle.thresholds.specs.declared.extremes.Extremes.{Extremes}
use Rattle.thresholds.specs.declared.extremes.Thresholds.{Thresholds}
use Rattle.thresholds.specs.Extremes.{extremes_in, thresholds_in, thresholds_of}
use Rattle.thresholds.proofs.Laws.Extremes.{thresholds_found}
use Rattle.working_pair.specs.Step.{working_pair}
use Rattle.working_pair.specs.State.{State}
use Rattle.working_pair.specs.Pair.{pair_of}
use Rattle.smo.specs.Run.{decided}
use Rattle.smo.proofs.run.decide.Goals as goal

-- no sum of the test leaves 64 bits
module _ (lower upper : ℤ) (t : ℕ) (lower_size : nat_abs lower ≤ gradient_most) (upper_size : nat_abs upper ≤ gradient_most) (small : t ≤ 1000000000000) where
  limit_is : to_z w64 (of_z w64 (to_z w64 (of_z w64 upper) +ℤ to_z w64 (of_z w64 (pos 2 *ℤ to_z w64 t)))) ≡ upper +ℤ pos (2 * t)
  limit_is = omega (arith, ints)

  lower_is : to_z w64 (of_z w64 lower) ≡ lower
  lower_is = omega (arith, ints)

  limit_fits : FitsSigned w64 (to_z w64 (of_z w64 upper) +ℤ to_z w64 (of_z w64 (pos 2 *ℤ to_z w64 t)))
  limit_fits = omega (arith, ints)

-- the thresholds found are those of the multipliers
module _ {f : FileProblem} {m : List ℕ} {g : List ℤ} (s : State f m g) {found : Extremes} (found_is : found ≡ extremes_in f m g) {both : Thresholds} (both_are : both ≡ thresholds_in found) where
  are : both ≡ thresholds_of (problem_in f) (at m)
  are = both_are ∙ ap thresholds_in found_is ∙ thresholds_found (problem_in f) (at m) (λ i. get_or g i (pos 0)) (λ i l. s.kept i (omega (arith, f.listed.counted)))

  lower_size : nat_abs both.lower ≤ gradient_most
  lower_size = subst (λ (x : Thresholds). nat_abs x.lower ≤ gradient_most) (sym are) (b_low_size _ _ _ _ m (fit_listed f m s.fit))

  upper_size : nat_abs both.upper ≤ gradient_most
  upper_size = subst (λ (x : Thresholds). nat_abs x.upper ≤ gradient_most) (sym are) (b_up_size _ _ _ _ m (fit_listed f m s.fit))

  -- what the test of the code says of the definition's
  tested : Ranges f.parameters → {b : Bool} → le_z (to_z w64 (of_z w64 both.lower)) (to_z w64 (of_z w64 (to_z w64 (of_z w64 both.upper) +ℤ to_z w64 (of_z w64 (pos 2 *ℤ to_z w64 f.parameters.tolerance))))) ≡ b
      → le_z (b_low (problem_in f) (at m)) (b_up (problem_in f) (at m) +ℤ pos (2 * f.parameters.tolerance)) ≡ b
  tested ranges e =
      sym
      ((λ k. le_z (lower_is both.lower both.upper f.parameters.tolerance lower_size upper_size ranges.tolerance_greatest k) (limit_is both.lower both.upper f.parameters.tolerance lower_size upper_size ranges.tolerance_greatest k))
      ∙ (λ k. le_z (are k).lower ((are k).upper +ℤ pos (2 * f.parameters.tolerance))))
      ∙ e

pub overflow_add-thresholds : goal.overflow_add-thresholds
overflow_add-thresholds c =
    let found = c.thresholds-thresholds.ensures in
    limit_fits c.thresholds-thresholds.result.lower c.thresholds-thresholds.result.upper _ (lower_size c.requires.0 c.requires.2 found) (upper_size c.requires.0 c.requires.2 found) c.requires.1.tolerance_greatest

pub returns-then-thresholds-problem : goal.returns-then-thresholds-problem
returns-then-thresholds-problem c =
    sym (ap (λ x. decided x (pair_of (working_pair (problem_in c.args.problem.now) c.args.multipliers.now))) (tested c.requires.0 c.requires.2 c.thresholds-thresholds.ensures c.requires.1 c.if-thresholds-problem.true))

-- the thresholds are apart, and the pair is the one found
pub returns-in-Some : goal.returns-in-Some
returns-in-Some c =
    sym (λ k. decided (tested c.requires.0 c.requires.2 c.thresholds-thresholds.ensures c.requires.1 c.if-thresholds-problem.false k) (sym c.in-Some.ensures k))

pub returns-in-None : goal.returns-in-None
returns-in-None c =
    sym (λ k. decided (tested c.requires.0 c.requires.2 c.thresholds-thresholds.ensures c.requires.1 c.if-thresholds-problem.false k) (sym c.in-None.ensures k))
