-- `pooling::left::put_items` meets its contract. The loop's invariant: the records of the items passed are put. Assumes nothing.
use Rattle.std.proofs.Common.{sym, ap₂}
use Rattle.buffer.proofs.Laws.Put.{put_as, put_none, put_then, room_as, room_first, room_then}
use Rattle.written_file.specs.File.{item_record}
use Rattle.pooling.specs.Left.{records_from}
use Rattle.pooling.proofs.Laws.Left.{records_more, records_split}
use Rattle.pooling.proofs.left.put_items.Goals as goal

pub loop-k-init : goal.loop-k-init
unfolding records_from
loop-k-init c = put_none _

-- what is put is the record of the item at this place
pub put_record-requires : goal.put_record-requires
put_record-requires c =
    let left = c.args.left.now in
    let split = records_split c.args.records c.args.before left.file.now left.numbers.now c.loop-k.k c.loop-k-test.true in
    let is = ap₂ item_record c.following.ensures c.item.ensures in
    room_as (sym is) (room_first _ _ (room_then c.loop-k.invariant (room_as split c.requires.room)))

pub loop-k-preserved : goal.loop-k-preserved
loop-k-preserved c =
    let left = c.args.left.now in
    let more = records_more c.args.records c.args.before left.file.now left.numbers.now c.loop-k.k c.loop-k-test.true in
    let is = ap₂ item_record c.following.ensures c.item.ensures in
    put_as more (put_then c.loop-k.invariant (put_as is c.put_record.ensures))
