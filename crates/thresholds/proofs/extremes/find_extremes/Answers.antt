-- `thresholds::extremes::find_extremes` meets its contract. Assumes nothing.
use Rattle.std.proofs.Common.{◌≡◌, ℕ, ℤ, refl, sym, ap, ◌∙◌, add-one, arith, rules, w64, to_z, of_z}
use Rattle.std.specs.Int.Signed.{lt_z}
use Rattle.integers.specs.Extremum.{extreme, argmin, argmax}
use Rattle.integers.proofs.Laws.Bounds.{reads_element}
use Rattle.dual_problem.specs.Problem.{up, low, at}
use Rattle.dual_problem.specs.Given.{problem_in}
use Rattle.thresholds.specs.Extremes.{best_of}
use Rattle.thresholds.proofs.Laws.Extremes.{beside_kept, beside_outside, beside_taken}
use Rattle.thresholds.proofs.extremes.find_extremes.Invariants.{value}
use Rattle.thresholds.proofs.extremes.find_extremes.Goals as goal
use Rattle.thresholds.proofs.extremes.find_extremes.Goals.{then-sets+then-is_none_or, else-sets, else-sets-via-then-sets+else-is_none_or, else-sets-via-else-sets}
use Rattle.thresholds.proofs.extremes.find_extremes.Goals.{then-sets-2+then-is_none_or-2, else-sets-2, else-sets-2-via-then-sets-2+else-is_none_or-2, else-sets-2-via-else-sets-2}

pub loop-place-init : goal.loop-place-init
unfolding extreme
loop-place-init c = (refl, refl)

pub loop-place-preserved : goal.loop-place-preserved
unfolding extreme
loop-place-preserved c =
    let P = problem_in c.args.problem.now in
    let a = at c.args.multipliers.now in
    let g : ℕ → ℤ = value c.args.gradient.now in
    let i = c.loop-place.place in
    let sets = c.sets_at-sets.ensures in
    let value_is : to_z w64 (of_z w64 (g i)) ≡ g i = reads_element w64 (g i) (search rules) in
    let in_low : c.sets_at-sets.result.low ≡ low P a i = λ k. (sets k).low in
    let in_up : c.sets_at-sets.result.up ≡ up P a i = λ k. (sets k).up in
    let inv = c.loop-place.invariant in (
      rw add-one (elim c.if-sets.branch [
        | then-sets+then-is_none_or w ↦ w.low-is ∙ beside_taken (λ a b. lt_z b a) g _ i inv.0 value_is w.is_none_or.result (search rules) (sym w.if-sets.true ∙ in_low) w.if-is_none_or.true
        | else-sets w ↦ w.low-is ∙ (elim w.else-sets.branch [
          | else-sets-via-then-sets+else-is_none_or v ↦ beside_kept (λ a b. lt_z b a) g _ i inv.0 value_is v.is_none_or.result (search rules) (sym v.if-sets.true ∙ in_low) v.if-is_none_or.false
          | else-sets-via-else-sets v ↦ beside_outside (λ a b. lt_z b a) g _ i inv.0 (sym v.if-sets.false ∙ in_low)
        ])
      ]),
      rw add-one (elim c.if-sets-2.branch [
        | then-sets-2+then-is_none_or-2 w ↦ w.up-is ∙ beside_taken lt_z g _ i inv.1 value_is w.is_none_or-then-sets-2.result (search rules) (sym w.if-sets-2.true ∙ in_up) w.if-is_none_or-2.true
        | else-sets-2 w ↦ w.up-is ∙ (elim w.else-sets-2.branch [
          | else-sets-2-via-then-sets-2+else-is_none_or-2 v ↦ beside_kept lt_z g _ i inv.1 value_is v.is_none_or-then-sets-2.result (search rules) (sym v.if-sets-2.true ∙ in_up) v.if-is_none_or-2.false
          | else-sets-2-via-else-sets-2 v ↦ beside_outside lt_z g _ i inv.1 (sym v.if-sets-2.false ∙ in_up)
        ])
      ]),
    )

pub returns : goal.returns
returns c =
    let g = value c.args.gradient.now in
    let P = problem_in c.args.problem.now in
    let a = at c.args.multipliers.now in
    let n : c.loop-place.place ≡ P.count = omega (arith, c.args.problem.now.listed.counted) in
    λ k. record {
      low = (c.loop-place.invariant.0 ∙ ap (λ m. best_of g (argmax m (low P a) g)) n) k;
      up = (c.loop-place.invariant.1 ∙ ap (λ m. best_of g (argmin m (up P a) g)) n) k;
    }
