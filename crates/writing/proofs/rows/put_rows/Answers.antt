-- `writing::rows::put_rows` meets its contract. The loop's invariant: the records of the rows passed are put. Assumes nothing.
use Rattle.std.proofs.Common.{◌≡◌, sym, ap, ap₂, ◌∙◌, List, [], ℕ, ◌+◌, ◌<◌, add-one, arith, ℤ, length, get_or}
use Rattle.buffer.proofs.Laws.Put.{put_as, put_none, put_then, room_as}
use Rattle.training_file.specs.declared.item.Item.{Item}
use Rattle.written_file.specs.File.{following, item_record, item_records, records_to}
use Rattle.written_file.proofs.Laws.Records.{record_more, record_room, record_of}
use Rattle.writing.specs.Row.{row_item, row_items}
use Rattle.writing.proofs.Laws.Row.{row_at, row_sixteen}
use Rattle.writing.proofs.rows.put_rows.Goals as goal

-- what is put is the record of the row at this place
record_is : (rows : List (List ℤ)) (k next : ℕ) (item : Item) → k < length rows → next ≡ following (length rows) (k + 1) → item ≡ row_item (get_or rows k [])
    → item_record next item ≡ record_of (row_items rows) (length rows) (row_sixteen rows) k
record_is rows k next item inside n e = ap₂ item_record (n ∙ ap (following (length rows)) (add-one k)) (e ∙ sym (row_at rows k inside))

pub loop-k-init : goal.loop-k-init
unfolding records_to
loop-k-init c = put_none _

pub put_record-requires : goal.put_record-requires
put_record-requires c =
    let rows = c.args.rows.now in
    let is = record_is rows c.loop-k.k _ _ c.loop-k-test.true c.following.ensures c.item_of.ensures in
    room_as (sym is) (record_room (row_items rows) (length rows) (row_sixteen rows) c.loop-k.k c.loop-k-test.true c.requires.room c.loop-k.invariant)

pub loop-k-preserved : goal.loop-k-preserved
loop-k-preserved c =
    let rows = c.args.rows.now in
    let is = record_is rows c.loop-k.k _ _ c.loop-k-test.true c.following.ensures c.item_of.ensures in
    put_as (record_more (row_items rows) (length rows) (row_sixteen rows) c.loop-k.k) (put_then c.loop-k.invariant (put_as is c.put_record.ensures))

pub returns : goal.returns
returns c =
    let rows = c.args.rows.now in
    let all : c.loop-k.k ≡ length rows = omega arith in
    put_as (ap (item_records (row_items rows) (length rows)) all) c.loop-k.invariant
