-- `classifying::classify::find_score` meets its contract: no sum on the way leaves 64 bits. Assumes nothing.
use mathlib.Core.Path.{◌≡◌, ◌∙◌, ap}
use Prim.Native.Nat.{◌≤◌}
use native.Mathlib.Omega.{arith}
use lib.IntN.{ℤ, pos, nat_abs, ◌+ℤ◌, ◌-ℤ◌, ◌*ℤ◌}
use mir.Syntax.{w64}
use mir.Val.{to_z, of_z}
use Rattle.std.proofs.lemmas.Int.{ints}
use Rattle.reading.specs.Reading.{reading}
use Rattle.reading.specs.Calls.{items_in}
use Rattle.dual_problem.specs.Problem.{problem, at}
use Rattle.dual_problem.specs.FileProblem.{weighed_sum}
use Rattle.dual_problem.specs.Size.{gradient_most, weighed_most}
use Rattle.classifying.specs.Classify.{score_with}
use Rattle.classifying.proofs.Laws.Classify.{word_kernel_is}
use Rattle.classifying.proofs.classify.find_score.Goals as goal

computed : (sum lower upper : ℤ) → nat_abs sum ≤ weighed_most → nat_abs lower ≤ gradient_most → nat_abs upper ≤ gradient_most
    → to_z w64 (of_z w64 (to_z w64 (of_z w64 (pos 2 *ℤ to_z w64 (of_z w64 sum))) -ℤ to_z w64 (of_z w64 (to_z w64 (of_z w64 lower) +ℤ to_z w64 (of_z w64 upper)))))
    ≡ pos 2 *ℤ sum -ℤ (lower +ℤ upper)
computed sum lower upper h l u = omega (arith, ints)

pub returns : goal.returns
unfolding score_with
returns c =
    let f = c.args.problem.now in
    let thresholds = c.args.thresholds in
    computed c.weighed_sum.result thresholds.lower thresholds.upper c.weighed_sum.ensures.size c.requires.lower_size c.requires.upper_size
    ∙ ap (λ z. pos 2 *ℤ z -ℤ (thresholds.lower +ℤ thresholds.upper))
    (c.weighed_sum.ensures.value ∙ (λ i. weighed_sum (problem f.parameters (items_in (reading f.file.now))) (at c.args.multipliers.now) (λ j. word_kernel_is f.parameters (items_in (reading f.file.now)) c.args.word.features j i)))
