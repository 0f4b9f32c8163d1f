-- Laws of judged multipliers: they are feasible exactly when no refusal applies. Assumes nothing.
use mathlib.Core.Path.{◌≡◌, refl, sym, ◌∙◌, ap}
use mathlib.Core.Bool.{Bool, true, false, cond}
use mathlib.Core.List.{List}
use Prim.Native.Nat.{ℕ}
use native.Mathlib.Omega.{arith}
use borrow.Author.Tests.{eq-eqb, eqb-true, leb-true, le-leb}
use lib.Dec.{leb, eqb}
use lib.ListN.{length}
use Rattle.integers.specs.Zero.{is_zero}
use Rattle.integers.specs.Places.{all}
use Rattle.integers.proofs.Laws.Zero.{is_zero_true}
use Rattle.integers.proofs.Laws.Places.{all_holds, all_true}
use Rattle.std.proofs.Common.{Result, Ok, Err}
use Rattle.training_file.specs.declared.refusal.Refusal.{Refusal}
use Rattle.training_file.specs.declared.refusal.Refusal.TheVariants as refusal
use Rattle.reading.specs.Reading.{reading}
use Rattle.reading.specs.Calls.{items_in}
use Rattle.training_file.specs.Parameters.{Ranges}
use Rattle.dual_problem.specs.declared.problem.FileProblem.{FileProblem}
use Rattle.dual_problem.specs.Problem.{Problem, Feasible, at}
use Rattle.dual_problem.specs.Given.{MultipliersFit, problem_in}
use Rattle.dual_problem.proofs.Laws.Problem.Ceilings.{feasible_most}
use Rattle.certifying.specs.Multipliers.{balance, judgement}

-- what the three tests answer decides
abbrev pub verdict : Bool → Bool → Bool → Result Unit Refusal
verdict counted within balanced =
    cond counted (cond within (cond balanced (Ok tt) (Err refusal.Balance)) (Err refusal.Multiplier)) (Err refusal.ListLength)

module _ (P : Problem) (a : List ℕ) where
  abbrev within : Bool
  within = all P.count (λ i. leb (at a i) (P.ceiling i))

  judgement_is : {s t u : Bool} → eqb (length a) P.count ≡ s → all P.count (λ i. leb (at a i) (P.ceiling i)) ≡ t → is_zero (balance P (at a)) ≡ u → judgement P a ≡ verdict s t u
  judgement_is e f g = λ i. verdict (e i) (f i) (g i)

  -- judged feasible: n in number, and feasible
  pub judgement_feasible : judgement P a ≡ Ok tt → (length a ≡ P.count) × Feasible P (at a)
  judgement_feasible h = by (eqb (length a) P.count) within (is_zero (balance P (at a))) refl refl refl
    where
      by : (s t u : Bool) → eqb (length a) P.count ≡ s → within ≡ t → is_zero (balance P (at a)) ≡ u → (length a ≡ P.count) × Feasible P (at a)
      by true true true e f g = (
        eqb-true (length a) P.count e,
        record { within = λ i l. leb-true (at a i) (P.ceiling i) (all_holds (λ i. leb (at a i) (P.ceiling i)) P.count f i l); balanced = is_zero_true (balance P (at a)) g },
      )
      by true true false e f g = let j = sym h ∙ judgement_is e f g in cc
      by true false u e f g = let j = sym h ∙ judgement_is e f g in cc
      by false t u e f g = let j = sym h ∙ judgement_is e f g in cc

  pub feasible_judgement : length a ≡ P.count → Feasible P (at a) → judgement P a ≡ Ok tt
  feasible_judgement e h =
      judgement_is (eq-eqb (length a) P.count e) (all_true (λ i. leb (at a i) (P.ceiling i)) P.count (λ i l. le-leb (at a i) (P.ceiling i) (h.within i l))) (ap is_zero h.balanced)

-- multipliers of a read file that were judged feasible are none above the highest ceiling
pub feasible_fit : (f : FileProblem) (a : List ℕ) → Ranges f.parameters → judgement (problem_in f) a ≡ Ok tt → MultipliersFit f a
feasible_fit f a ranges h =
    let b = judgement_feasible (problem_in f) a h in
    record {
      used = ranges.used_greatest;
      grid = ranges.grid_greatest;
      long = omega (arith, b.0, f.listed.counted);
      small = λ i l. feasible_most f.parameters ranges (items_in (reading f.file.now)) (at a) b.1 i (omega (arith, f.listed.counted));
    }
