-- `lines::print::put_item` meets its contract: the parts of the line are put one after the other, and each has the room that those before it
-- leave. Assumes nothing.
use Rattle.std.proofs.Common.{sym, ap}
use Rattle.buffer.proofs.Laws.Put.{put_as, put_then, room_as, room_first, room_then}
use Rattle.text.specs.Decimal.{decimal}
use Rattle.lines.specs.Lines.{item_line}
use Rattle.lines.proofs.print.put_item.Goals as goal

pub put_label-requires : goal.put_label-requires
unfolding item_line
put_label-requires c = room_first _ _ (room_then (put_as (ap decimal c.from.ensures) c.put_number.ensures) c.requires)

pub put_number-requires-2 : goal.put_number-requires-2
unfolding item_line
put_number-requires-2 c =
    let number = put_as (ap decimal c.from.ensures) c.put_number.ensures in
    room_as (sym (ap decimal c.from-2.ensures)) (room_first _ _ (room_then c.put_label.ensures (room_then number c.requires)))

pub put_bytes-requires : goal.put_bytes-requires
unfolding item_line
put_bytes-requires c =
    let number = put_as (ap decimal c.from.ensures) c.put_number.ensures in
    let multiplier = put_as (ap decimal c.from-2.ensures) c.put_number-2.ensures in
    room_then multiplier (room_then c.put_label.ensures (room_then number c.requires))

pub returns : goal.returns
unfolding item_line
returns c =
    let number = put_as (ap decimal c.from.ensures) c.put_number.ensures in
    let multiplier = put_as (ap decimal c.from-2.ensures) c.put_number-2.ensures in
    put_then number (put_then c.put_label.ensures (put_then multiplier c.put_bytes.ensures))
