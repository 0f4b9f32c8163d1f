-- `chain::walks::judge_records` meets its contract. Assumes nothing.
use mathlib.Core.Path.{◌≡◌, refl, sym, ap, ◌∙◌}
use Prim.Native.Nat.{◌≤◌, ◌<◌}
use native.Mathlib.Omega.{arith}
use lib.ListN.{length, drop_of_length-le}
use Rattle.std.proofs.lemmas.Result.{err_from_is_err_and}
use Rattle.training_file.specs.declared.item.Label.TheVariants.{LookedUp}
use Rattle.training_file.specs.Item.{same}
use Rattle.training_file.specs.Answers.{record_answer}
use Rattle.training_file.proofs.Laws.Item.{same_most}
use Rattle.training_file.proofs.Laws.Answers.{if_ok}
use Rattle.chain.specs.Answers.{judge_answer, order_of}
use Rattle.chain.proofs.Laws.Answers.{judge_allowed, judge_none, judge_refused, on_next, order_first, order_stored}
use Rattle.chain.proofs.walks.judge_records.Goals as goal

pub loop-init : goal.loop-init
loop-init c = record {
  same_file = (λ i. (c.start-walker.ensures.0 i).now);
  counted = c.start-walker.ensures.2;
  at_place = c.start-walker.ensures.1 ∙ order_first _ _ c.requires;
  few = omega arith;
  left = refl;
}

pub invariant_of-record : goal.invariant_of-record
invariant_of-record c = record { stored = order_stored _ _ c.requires _ _ c.loop-test.true c.loop.invariant.at_place }

pub overflow_add-looked_up : goal.overflow_add-looked_up
overflow_add-looked_up c =
    let most : c.looked_up.result ≤ 1 = rw c.looked_up.ensures (same_most LookedUp _) in
    omega (arith, c.loop.invariant.few, c.requires.counted)

pub advance-walker-requires : goal.advance-walker-requires
advance-walker-requires c = omega (arith, c.loop.invariant.counted, c.loop-test.true)

-- the answer that was given is that of the record at its place of the order, and the label that was counted is that of the same record
pub loop-preserved : goal.loop-preserved
loop-preserved c =
    let i = c.loop.invariant in
    let most : c.looked_up.result ≤ 1 = rw c.looked_up.ensures (same_most LookedUp _) in
    let place : c.loop.counter < length (order_of c.args.file.now) = omega (arith, c.requires.counted, c.loop-test.true) in
    let allowed = if_ok _ _ _ _ (sym (ap (record_answer _ _) i.at_place) ∙ sym c.judge.ensures ∙ c.in_ok-judge.was) in
    record {
      same_file = (λ k. (c.advance-walker.ensures.0 k).now) ∙ i.same_file;
      counted = omega (arith, c.advance-walker.ensures.2, i.counted);
      at_place = c.advance-walker.ensures.1 ∙ on_next _ _ c.requires _ _ c.loop-test.true i.at_place _ _ i.same_file i.counted;
      few = omega (arith, i.few);
      left = i.left ∙ judge_allowed _ _ _ _ _ _ place allowed.0 (c.looked_up.ensures ∙ sym (ap (same LookedUp) allowed.1));
    }

pub returns : goal.returns
returns c =
    let i = c.loop.invariant in
    sym
    (i.left
    ∙ ap (judge_answer _ _ c.loop.looked_up) (drop_of_length-le _ {i = c.loop.counter} (omega (arith, c.requires.counted, c.loop-test.false)))
    ∙ judge_none _ _ c.loop.looked_up)

pub returns-in_err-judge : goal.returns-in_err-judge
returns-in_err-judge c =
    let i = c.loop.invariant in
    let p = err_from_is_err_and c.from_residual.result c.from_residual.ensures.1 in
    let answered = sym (ap (record_answer _ _) i.at_place) ∙ sym c.judge.ensures ∙ c.in_err-judge.was in
    let place : c.loop.counter < length (order_of c.args.file.now) = omega (arith, c.requires.counted, c.loop-test.true) in
    rw (p.1, p.2) (sym (i.left ∙ judge_refused _ _ _ _ _ _ place answered))
