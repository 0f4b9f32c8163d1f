-- `writing::write::write` meets its contract: each answer is that of the stage that gives it. Assumes nothing.
use mathlib.Core.Path.{◌≡◌, refl, sym, ◌∙◌}
use mathlib.Core.Bool.{true}
use mathlib.Core.List.{List}
use Prim.Native.Nat.{ℕ}
use native.Mathlib.Omega.{arith}
use lib.IntN.{ℤ}
use lib.ListN.{length, length-map}
use borrow.Author.Rules.{rules}
use borrow.Author.Tests.{le-leb, lt-leb}
use Rattle.std.proofs.Common.{Ok}
use Rattle.std.proofs.lemmas.Result.{err_from_is_err_and}
use Rattle.buffer.specs.declared.put.Cursor.{Cursor}
use Rattle.buffer.specs.Put.{Room}
use Rattle.buffer.proofs.Laws.Put.{put_then, room_first, room_then}
use Rattle.training_file.specs.declared.refusal.Refusal.TheVariants as refusal
use Rattle.training_file.specs.declared.parameters.Parameters.{Parameters}
use Rattle.training_file.proofs.Laws.Parameters.{allowed_ranges}
use Rattle.training_file.proofs.Laws.Answers.{if_ok}
use Rattle.written_file.specs.File.{file_length, header_bytes, item_records}
use Rattle.written_file.specs.Output.{file_fits, length_answer}
use Rattle.written_file.proofs.Laws.Output.{passes_on, refuses}
use Rattle.written_file.proofs.Laws.Records.{file_room, file_written, file_put}
use Rattle.writing.specs.Row.{row_item, row_items}
use Rattle.writing.proofs.Laws.Row.{row_sixteen}
use Rattle.writing.proofs.Laws.Call.{fits_whole, one_label, too_short, writes_1, writes_2, writes_4}
use Rattle.writing.proofs.write.write.Goals as goal

fits : (n room all : ℕ) → length_answer n room ≡ Ok all → file_fits n room ≡ true
fits n room all l = (if_ok (file_fits n room) (file_length n) refusal.Output all l).0

-- the file has room in the output
roomy : (p : Parameters) (rows : List (List ℤ)) {before : Cursor} (all : ℕ) → before.at ≡ 0 → length_answer (length rows) (length before.bytes.now) ≡ Ok all
    → Room (file_put (row_items rows) (length rows) (row_sixteen rows) p) before
roomy p rows all start l = file_room (row_items rows) (length rows) (row_sixteen rows) p start (fits _ _ all l)

pub returns-then-not-allowed : goal.returns-then-not-allowed
returns-then-not-allowed c =
    let comes = refuses _ c.args.output.now _ (writes_2 c.args.parameters c.args.items.now _ (sym c.allowed.ensures ∙ c.if-not-allowed.true)) in
    record { answer = comes.0; output = comes.1 }

pub returns-then-items-gt-MAX_RECORDS : goal.returns-then-items-gt-MAX_RECORDS
returns-then-items-gt-MAX_RECORDS c =
    let allowed = sym c.allowed.ensures ∙ c.if-not-allowed.false in
    let comes = refuses _ c.args.output.now _ (writes_1 c.args.parameters c.args.items.now _ allowed (lt-leb _ 256 c.if-items-gt-MAX_RECORDS.true)) in
    record { answer = comes.0; output = comes.1 }

pub returns-in_err-looked_up : goal.returns-in_err-looked_up
returns-in_err-looked_up c =
    let p = err_from_is_err_and c.from_residual.result c.from_residual.ensures.1 in
    let allowed = sym c.allowed.ensures ∙ c.if-not-allowed.false in
    let comes = passes_on _ c.args.output.now _ _ _ c.judge_rows.ensures c.in_err-looked_up.was
    (writes_4 c.args.parameters c.args.items.now _ allowed (le-leb _ 256 c.if-items-gt-MAX_RECORDS.false)) in
    record { answer = rw (p.1, p.2) comes.0; output = comes.1 }

pub returns-then-looked_up-eq0 : goal.returns-then-looked_up-eq0
returns-then-looked_up-eq0 c =
    let answered = c.in_ok-looked_up.ensures in
    let allowed = sym c.allowed.ensures ∙ c.if-not-allowed.false in
    let comes = refuses _ c.args.output.now _ (one_label c.args.parameters c.args.items.now _ allowed (le-leb _ 256 c.if-items-gt-MAX_RECORDS.false) _ answered c.then-looked_up-eq0.either) in
    record { answer = comes.0; output = comes.1 }

pub returns-in_err-length : goal.returns-in_err-length
returns-in_err-length c =
    let p = err_from_is_err_and c.from_residual-in_err-length.result c.from_residual-in_err-length.ensures.1 in
    let allowed = sym c.allowed.ensures ∙ c.if-not-allowed.false in
    let comes = passes_on _ c.args.output.now _ _ _ c.file_length.ensures c.in_err-length.was
    (too_short c.args.parameters c.args.items.now _ allowed (le-leb _ 256 c.if-items-gt-MAX_RECORDS.false) _ c.in_ok-looked_up.ensures c.if-looked_up-eq0.false c.if-looked_up-items.false) in
    record { answer = rw (p.1, p.2) comes.0; output = comes.1 }

pub put_header-requires : goal.put_header-requires
put_header-requires c =
    let rows = c.args.items.now in
    let ranges = allowed_ranges c.args.parameters (sym c.allowed.ensures ∙ c.if-not-allowed.false) in
    let first = room_first (header_bytes (length rows) c.args.parameters) (item_records (row_items rows) (length rows) (length rows)) in
    record { room = first (roomy c.args.parameters rows _ refl (sym c.in_ok-length.ensures)); most = (omega arith, ranges.used_greatest) }

pub put_rows-requires : goal.put_rows-requires
put_rows-requires c = record { room = room_then c.put_header.ensures (roomy c.args.parameters c.args.items.now _ refl (sym c.in_ok-length.ensures)); most = omega arith }

pub returns : goal.returns
returns c =
    let rows = c.args.items.now in
    let allowed = sym c.allowed.ensures ∙ c.if-not-allowed.false in
    let few = le-leb _ 256 c.if-items-gt-MAX_RECORDS.false in
    let fit = fits (length rows) (length c.args.output.now) _ (sym c.in_ok-length.ensures) in
    let whole = fits_whole c.args.parameters rows (length c.args.output.now) allowed few _ c.in_ok-looked_up.ensures c.if-looked_up-eq0.false c.if-looked_up-items.false fit in
    let comes = file_written (row_items rows) (length rows) (row_sixteen rows) c.args.parameters refl fit (length-map rows row_item) _ whole c.in_ok-length.ensures
    (put_then c.put_header.ensures c.put_rows.ensures) in
    let left = comes.1 in
    record { answer = comes.0; output = search (rules, left) }
