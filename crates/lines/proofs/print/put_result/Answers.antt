-- `lines::print::put_result` meets its contract: the parts of the line are put one after the other, and each has the room that those before
-- it leave. Assumes nothing.
use Rattle.std.proofs.Common.{◌≡◌, sym, ap, rules, w64}
use mir.Val.{to_z, of_z}
use Rattle.integers.proofs.Laws.Bounds.{reads_element}
use Rattle.buffer.proofs.Laws.Put.{put_as, put_then, room_as, room_first, room_then}
use Rattle.lines.specs.Lines.{field, result_line, signed_field}
use Rattle.lines.proofs.print.put_result.Goals as goal

pub put_signed_field-requires : goal.put_signed_field-requires
unfolding result_line
put_signed_field-requires c =
    let lower_read : signed_field (to_z w64 (of_z w64 c.args.trained.lower)) ≡ signed_field c.args.trained.lower = ap signed_field (reads_element w64 c.args.trained.lower (search rules)) in
    room_as (sym lower_read) (room_first _ _ (room_then (put_as (ap field c.from.ensures) c.put_field.ensures) (room_then c.put_ending.ensures c.requires)))

pub put_signed_field-requires-2 : goal.put_signed_field-requires-2
unfolding result_line
put_signed_field-requires-2 c =
    let lower_read : signed_field (to_z w64 (of_z w64 c.args.trained.lower)) ≡ signed_field c.args.trained.lower = ap signed_field (reads_element w64 c.args.trained.lower (search rules)) in
    let upper_read : signed_field (to_z w64 (of_z w64 c.args.trained.upper)) ≡ signed_field c.args.trained.upper = ap signed_field (reads_element w64 c.args.trained.upper (search rules)) in
    let steps = put_as (ap field c.from.ensures) c.put_field.ensures in
    room_as (sym upper_read) (room_first _ _ (room_then (put_as lower_read c.put_signed_field.ensures) (room_then steps (room_then c.put_ending.ensures c.requires))))

pub put_bytes-requires : goal.put_bytes-requires
unfolding result_line
put_bytes-requires c =
    let lower_read : signed_field (to_z w64 (of_z w64 c.args.trained.lower)) ≡ signed_field c.args.trained.lower = ap signed_field (reads_element w64 c.args.trained.lower (search rules)) in
    let upper_read : signed_field (to_z w64 (of_z w64 c.args.trained.upper)) ≡ signed_field c.args.trained.upper = ap signed_field (reads_element w64 c.args.trained.upper (search rules)) in
    let steps = put_as (ap field c.from.ensures) c.put_field.ensures in
    room_then (put_as upper_read c.put_signed_field-2.ensures) (room_then (put_as lower_read c.put_signed_field.ensures) (room_then steps (room_then c.put_ending.ensures c.requires)))

pub returns : goal.returns
unfolding result_line
returns c =
    let lower_read : signed_field (to_z w64 (of_z w64 c.args.trained.lower)) ≡ signed_field c.args.trained.lower = ap signed_field (reads_element w64 c.args.trained.lower (search rules)) in
    let upper_read : signed_field (to_z w64 (of_z w64 c.args.trained.upper)) ≡ signed_field c.args.trained.upper = ap signed_field (reads_element w64 c.args.trained.upper (search rules)) in
    let steps = put_as (ap field c.from.ensures) c.put_field.ensures in
    put_then c.put_ending.ensures (put_then steps (put_then (put_as lower_read c.put_signed_field.ensures) (put_then (put_as upper_read c.put_signed_field-2.ensures) c.put_bytes.ensures)))
