-- `lines::print::put_total` meets its contract. Assumes nothing.
use Rattle.std.proofs.Common.{rules}
use Rattle.buffer.proofs.Laws.Put.{put_then, room_first, room_then}
use Rattle.lines.specs.Lines.{total_line}
use Rattle.lines.proofs.print.put_total.Goals as goal

pub put_field-requires-2 : goal.put_field-requires-2
unfolding total_line
put_field-requires-2 c = room_first _ _ (room_then c.put_field.ensures (room_then c.put_bytes.ensures c.requires))

pub put_field-requires-3 : goal.put_field-requires-3
unfolding total_line
put_field-requires-3 c = room_first _ _ (room_then c.put_field-2.ensures (room_then c.put_field.ensures (room_then c.put_bytes.ensures c.requires)))

pub put_bytes-requires-2 : goal.put_bytes-requires-2
unfolding total_line
put_bytes-requires-2 c = search (rules, room_first, room_then)

pub returns : goal.returns
unfolding total_line
returns c = search (rules, put_then)
