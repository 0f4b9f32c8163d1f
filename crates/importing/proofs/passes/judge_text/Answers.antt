-- `importing::passes::judge_text` meets its contract. The loop's invariant: what is counted is that of the lines so far. Assumes nothing.
use mathlib.Core.Path.{sym, ◌∙◌, ap}
use mathlib.Core.Bool.{not, not-not}
use native.Mathlib.Omega.{arith}
use Rattle.training_file.specs.declared.item.Label.TheVariants.{LookedUp}
use Rattle.training_file.proofs.Laws.Item.{same_most}
use Rattle.libsvm_text.proofs.Laws.Ends.{unended_none}
use Rattle.libsvm_text.proofs.Laws.Taken.{or_left, or_taken}
use Rattle.importing.specs.Judged.{judged}
use Rattle.importing.proofs.Laws.Passes.{judged_all, judged_few, judged_more, judged_none, line_told}
use Rattle.importing.proofs.passes.judge_text.Goals as goal
use Rattle.importing.proofs.passes.judge_text.Goals.{then-wide, else-wide}

pub returns-then-not-ends : goal.returns-then-not-ends
returns-then-not-ends c = sym (ap judged (unended_none _ _ (sym c.ends.ensures ∙ c.if-not-ends.true)))

pub loop-at-init : goal.loop-at-init
loop-at-init c = judged_none _ _

pub overflow_add-looked_up : goal.overflow_add-looked_up
overflow_add-looked_up c =
    let found = line_told c.args.used c.args.text.now c.loop-at.at c.read_line.result _ c.read_line.ensures c.in_ok-found.ensures.value in
    let few = judged_few c.args.used c.args.text.now c.loop-at.wide c.loop-at.lines c.loop-at.looked_up c.loop-at.at c.loop-at.invariant in
    omega (arith, few.1, found.onward, found.within, c.looked_up-looked_up.ensures, same_most LookedUp c.in_ok-found.found.what.label)

pub loop-at-preserved : goal.loop-at-preserved
loop-at-preserved c =
    let found = line_told c.args.used c.args.text.now c.loop-at.at c.read_line.result _ c.read_line.ensures c.in_ok-found.ensures.value in
    judged_more _ _ _ _ _ _ c.loop-at.invariant found _
    (elim c.if-wide.branch [ then-wide w ↦ or_taken _ _ w.if-wide.true w.wide-is | else-wide w ↦ or_left _ _ w.if-wide.false (w.wide-is ∙ sym (not-not _) ∙ ap not (sym w.is_none-wide.ensures)) ])
    _ c.looked_up-looked_up.ensures

pub returns : goal.returns
returns c = judged_all _ _ _ _ _ _ c.loop-at.invariant (omega arith) c.then_some.ensures
