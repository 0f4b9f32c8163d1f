-- `pooling::pool::pool_items` meets its contract: the items at the first places are the last of all. Assumes nothing.
use mathlib.Core.Path.{◌∙◌, ap}
use mathlib.Core.List.{List, ◌++◌}
use native.Mathlib.Omega.{arith}
use lib.ListN.{length, take}
use Rattle.training_file.specs.declared.item.Item.{Item}
use Rattle.written_file.specs.Output.{Writing, output_after, written_answer}
use Rattle.last_items.specs.Kept.{items_at}
use Rattle.last_items.proofs.Laws.Kept.{kept_both, kept_stored}
use Rattle.pooling.specs.Pooling.{write_left}
use Rattle.pooling.proofs.pool.pool_items.Goals as goal

pub invariant_of-write_left : goal.invariant_of-write_left
invariant_of-write_left c =
    let left = kept_stored _ _ _ _ _ c.keep_last-older_left.ensures c.requires.stored.0 in
    record { bytes = λ i. let small = c.type_inv.older i in omega arith; few = left.few; stored = left.stored }

pub invariant_of-write_left-2 : goal.invariant_of-write_left-2
invariant_of-write_left-2 c =
    let left = kept_stored _ _ _ _ _ c.keep_last-newer_left.ensures c.requires.stored.1 in
    record { bytes = λ i. let small = c.type_inv.newer i in omega arith; few = left.few; stored = left.stored }

-- of the older file those are kept that no other item of either file repeats later, and of the newer those that none of its own does
pub returns : goal.returns
returns c =
    let left = items_at c.args.older.now (take c.keep_last-older_left.result c.keep_last-older_left.new.numbers)
    ++ items_at c.args.newer.now (take c.keep_last-newer_left.result c.keep_last-newer_left.new.numbers) in
    let coming : List Item → Writing = λ items. write_left (length c.args.output.now) c.args.parameters items in
    let left_are =
    kept_both c.args.older.now c.args.older_numbers.now _ _ c.args.newer.now c.args.newer_numbers.now _ _ c.keep_last-older_left.ensures c.keep_last-newer_left.ensures in
    record {
      answer = ◌∙◌ {b = written_answer (coming left)} c.write_left.ensures.answer (ap (λ (items : List Item). written_answer (coming items)) left_are);
      output =
          ◌∙◌ {b = output_after (coming left) c.args.output.now} c.write_left.ensures.output
          (ap (λ (items : List Item). output_after (coming items) c.args.output.now) left_are);
    }
