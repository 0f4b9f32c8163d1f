-- `classifying::classify::classify_read` meets its contract: each return has the answers of the tests before it. Assumes nothing.
use mathlib.Core.Path.{sym, ◌∙◌, ap, subst}
use Prim.Native.Nat.{◌≤◌}
use lib.IntN.{nat_abs}
use mir.Syntax.{w64}
use Rattle.std.proofs.Common.{rules}
use Rattle.std.specs.Prelude.{is_some, IfSome}
use Rattle.integers.proofs.Laws.Bounds.{reads_element}
use Rattle.reading.specs.Reading.{reading}
use Rattle.reading.specs.Calls.{items_in}
use Rattle.dual_problem.specs.Problem.{at}
use Rattle.dual_problem.proofs.Laws.FileProblem.{b_low_size, b_up_size, fit_listed}
use Rattle.dual_problem.specs.Size.{gradient_most}
use Rattle.thresholds.specs.declared.extremes.Thresholds.{Thresholds}
use Rattle.certifying.proofs.Laws.Multipliers.{feasible_fit}
use Rattle.classifying.specs.Classify.{SameFeatures, class_of, score_with}
use Rattle.classifying.proofs.Laws.Classify.{score_same}
use Rattle.classifying.proofs.classify.classify_read.Goals as goal

pub find_thresholds-thresholds-requires : goal.find_thresholds-thresholds-requires
find_thresholds-thresholds-requires c = feasible_fit c.args.problem.now c.args.multipliers.now c.requires (sym c.in_ok-judge_multipliers.ensures)

pub find_score-requires : goal.find_score-requires
find_score-requires c =
    let found = c.find_thresholds-thresholds.ensures in
    let a = c.args.multipliers.now in
    let fit = feasible_fit c.args.problem.now a c.requires (sym c.in_ok-judge_multipliers.ensures) in
    let listed = fit_listed c.args.problem.now a fit in
    record {
      fit = fit;
      lower_size = subst (λ (x : Thresholds). nat_abs x.lower ≤ gradient_most) (sym found) (b_low_size _ _ _ _ a listed);
      upper_size = subst (λ (x : Thresholds). nat_abs x.upper ≤ gradient_most) (sym found) (b_up_size _ _ _ _ a listed);
    }

pub returns : goal.returns
returns c =
    let f = c.args.problem.now in
    let a = c.args.multipliers.now in
    let word = c.args.word.now in
    let items = items_in (reading f.file.now) in
    let answered = c.in_ok-item.ensures.ok_part in
    let same = subst (λ answer. IfSome answer (λ item. SameFeatures item.features word)) answered c.word_item.ensures.features in
    let score_is = reads_element w64 c.find_score.result c.find_score.type_inv ∙ c.find_score.ensures
    ∙ ap (λ both. score_with f.parameters items (at a) both c.in_ok-item.item.features) c.find_thresholds-thresholds.ensures
    ∙ score_same c.in_ok-item.item.features word same f.parameters items (at a) _ in
    let allowed = sym c.word_item.ensures.allowed ∙ ap is_some answered in
    let class_is = c.of_score.ensures ∙ ap class_of score_is in
    search rules
