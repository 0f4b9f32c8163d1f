-- `writing::rows::judge_rows` meets its contract. The loop's invariant: what is left to judge gives the answer. Assumes nothing.
use Rattle.std.proofs.Common.{◌≡◌, sym, ap, ◌∙◌, ◌≤◌, arith}
use Rattle.std.specs.Option.{ok_or}
use Rattle.std.proofs.lemmas.Result.{err_from_is_err_and}
use lib.ListN.{drop_of_length-le}
use Rattle.training_file.specs.declared.item.Item.{Item}
use Rattle.training_file.specs.declared.item.Label.TheVariants.{LookedUp}
use Rattle.training_file.specs.declared.refusal.Refusal.TheVariants as refusal
use Rattle.training_file.specs.Item.{same}
use Rattle.training_file.proofs.Laws.Item.{same_most}
use Rattle.writing.proofs.Laws.Row.{item_none, item_some, judge_from, judge_allowed, judge_none, judge_refused}
use Rattle.writing.proofs.rows.judge_rows.Goals as goal

pub returns-in_err-item : goal.returns-in_err-item
returns-in_err-item c =
    let p = err_from_is_err_and c.from_residual.result c.from_residual.ensures.1 in
    let told = c.in_err-item.ensures.value ∙ ap (λ o. ok_or o refusal.Record) c.in_err-item.ensures.ok_part in
    let why : c.in_err-item.field-0.0 ≡ refusal.Record = cc in
    let fails = item_none _ _ (sym c.judge_row.ensures ∙ c.in_err-item.ensures.ok_part) in
    rw (p.1, p.2, why) (sym (c.loop-row.invariant.1 ∙ judge_refused _ _ _ _ c.loop-row-test.true fails))

-- the label that was counted is that of the row at this place, and counts for at most one
pub loop-row-preserved : goal.loop-row-preserved
loop-row-preserved c =
    let item = item_some _ _ _ (sym c.judge_row.ensures ∙ c.in_ok-item.ensures.ok_part) in
    let most : c.looked_up-looked_up.result ≤ 1 = rw c.looked_up-looked_up.ensures (same_most LookedUp c.in_ok-item.item.label) in (
      omega arith,
      c.loop-row.invariant.1
          ∙ judge_allowed _ _ _ _ c.loop-row-test.true _ item.0 (c.looked_up-looked_up.ensures ∙ sym (ap (λ (judged : Item). same LookedUp judged.label) item.1)),
    )

pub returns : goal.returns
returns c =
    sym
    (c.loop-row.invariant.1
    ∙ ap (judge_from _ c.loop-row.looked_up) (drop_of_length-le _ {i = c.loop-row.row-index} (omega arith))
    ∙ judge_none _ c.loop-row.looked_up)
