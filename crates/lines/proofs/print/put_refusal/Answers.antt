-- `lines::print::put_refusal` meets its contract: the parts of the line are put one after the other, and each has the room that those before
-- it leave. Assumes nothing.
use Rattle.std.proofs.Common.{sym, ◌∙◌, ap}
use Rattle.buffer.proofs.Laws.Put.{put_as, put_then, room_as, room_first, room_then}
use Rattle.lines.specs.Lines.{field, record_field}
use Rattle.lines.proofs.print.put_refusal.Goals as goal

pub put_record-requires : goal.put_record-requires
put_record-requires c =
    let number = put_as (ap field (c.from.ensures ∙ c.number.ensures)) c.put_field.ensures in
    room_as (sym (ap record_field c.record.ensures)) (room_first _ _ (room_then number (room_then c.put_bytes.ensures c.requires)))

pub put_bytes-requires-2 : goal.put_bytes-requires-2
put_bytes-requires-2 c =
    let number = put_as (ap field (c.from.ensures ∙ c.number.ensures)) c.put_field.ensures in
    room_then (put_as (ap record_field c.record.ensures) c.put_record.ensures) (room_then number (room_then c.put_bytes.ensures c.requires))

pub returns : goal.returns
returns c =
    let number = put_as (ap field (c.from.ensures ∙ c.number.ensures)) c.put_field.ensures in
    put_then c.put_bytes.ensures (put_then number (put_then (put_as (ap record_field c.record.ensures) c.put_record.ensures) c.put_bytes-2.ensures))
