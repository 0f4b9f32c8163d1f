-- `chain::walks::fill` meets its contract. Assumes nothing.
use mathlib.Core.Path.{refl, ◌∙◌}
use Prim.Native.Nat.{◌<◌}
use native.Mathlib.Omega.{arith}
use lib.ListN.{length, length-set}
use Rattle.chain.specs.Answers.{order_of}
use Rattle.chain.proofs.Laws.Answers.{fill_done, fill_more, on_next, order_first, order_within}
use Rattle.chain.proofs.walks.fill.Goals as goal

pub loop-place-init : goal.loop-place-init
loop-place-init c = record {
  same_file = (λ i. (c.start-walker.ensures.0 i).now);
  counted = c.start-walker.ensures.2;
  at_place = c.start-walker.ensures.1 ∙ order_first _ _ c.requires;
  same_length = refl;
  filled = refl;
}

pub advance-walker-requires : goal.advance-walker-requires
advance-walker-requires c = omega (arith, c.loop-place.invariant.counted, c.loop-place-test.true)

pub loop-place-preserved : goal.loop-place-preserved
loop-place-preserved c =
    let of_chain : c.loop-place.place < c.args.count = omega (arith, c.min-place-end.ensures, c.loop-place-test.true) in
    let of_table : c.loop-place.place < length c.args.table.now = omega (arith, c.min-place-end.ensures, c.loop-place-test.true) in
    record {
      same_file = (λ i. (c.advance-walker.ensures.0 i).now) ∙ c.loop-place.invariant.same_file;
      counted = omega (arith, c.advance-walker.ensures.2, c.loop-place.invariant.counted);
      at_place = c.advance-walker.ensures.1 ∙ on_next _ _ c.requires _ _ of_chain c.loop-place.invariant.at_place _ _ c.loop-place.invariant.same_file c.loop-place.invariant.counted;
      same_length = simp length-set c.loop-place.invariant.same_length;
      filled = rw c.loop-place.invariant.filled (fill_more _ _ _ _ (omega (arith, c.requires.counted)) of_table c.loop-place.invariant.at_place);
    }

-- the record that is written is one of those stored, which are few
pub overflow_cast-table : goal.overflow_cast-table
overflow_cast-table c =
    let of_chain : c.loop-place.place < c.args.count = omega (arith, c.min-place-end.ensures, c.loop-place-test.true) in
    let w = order_within _ _ c.requires _ of_chain in
    let most = c.requires.file_whole.most in
    let n = c.loop-place.invariant.at_place in
    omega arith

pub returns : goal.returns
returns c =
    c.loop-place.invariant.filled
    ∙ fill_done (order_of c.args.file.now) c.args.table.now c.loop-place.place
    (omega (arith, c.requires.counted, c.min-place-end.ensures, c.loop-place-test.false, c.loop-place.auto.place-end))
