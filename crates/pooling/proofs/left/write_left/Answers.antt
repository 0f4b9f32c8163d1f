-- `pooling::left::write_left` meets its contract: each answer is that of the stage that gives it. Assumes nothing.
use Rattle.std.proofs.Common.{◌≡◌, ◌+◌, ◌++◌, ◌≤◌, ◌<◌, ◌∙◌, ap, sym, refl, arith, length, List, ℕ, Ok, true, rules}
use borrow.Author.Tests.{le-leb}
use Rattle.buffer.specs.declared.put.Cursor.{Cursor}
use Rattle.buffer.specs.Put.{Put, Room}
use Rattle.buffer.proofs.Laws.Put.{put_as, put_then, room_as, room_first, room_then}
use Rattle.training_file.specs.declared.refusal.Refusal.TheVariants as refusal
use Rattle.training_file.specs.declared.parameters.Parameters.{Parameters}
use Rattle.training_file.specs.declared.item.Item.{Item}
use Rattle.training_file.specs.Layout.{feature_count}
use Rattle.training_file.specs.Parameters.{records_most}
use Rattle.training_file.specs.Item.{both_labels, item_in}
use Rattle.training_file.proofs.Laws.Answers.{if_ok}
use Rattle.written_file.specs.File.{header_bytes}
use Rattle.written_file.specs.Output.{file_fits, length_answer}
use Rattle.written_file.proofs.Laws.Output.{Comes}
use Rattle.written_file.proofs.Laws.Records.{file_put, file_room, file_written}
use Rattle.last_items.specs.declared.records.Records.{Records}
use Rattle.last_items.specs.Records.{items_of}
use Rattle.pooling.specs.Pooling.{write_left}
use Rattle.pooling.specs.Left.{both_left, records_from}
use Rattle.pooling.proofs.Laws.Call.{left_all}
use Rattle.pooling.proofs.Laws.Left.{both_counted, both_sixteen, records_both}
use Rattle.pooling.proofs.left.write_left.Goals as goal

-- the output before, and what is put into it: header and records
module _ (older newer : Records) (p : Parameters) where
  abbrev count : ℕ
  count = length older.numbers.now + length newer.numbers.now

  abbrev items : List Item
  items = both_left older newer

  counted : length items ≡ count
  counted = both_counted older.file.now older.numbers.now newer.file.now newer.numbers.now

  sixteen : (k : ℕ) → k < count → length (item_in items k).features ≡ feature_count
  sixteen k h = both_sixteen older.file.now older.numbers.now newer.file.now newer.numbers.now older.stored newer.stored k (omega (arith, counted))

  abbrev bytes : List ℕ
  bytes = header_bytes count p ++ (records_from count 0 (items_of older) ++ records_from count (length older.numbers.now) (items_of newer))

  bytes_are : bytes ≡ file_put items count sixteen p
  bytes_are =
      ap (λ (l : List ℕ). header_bytes count p ++ l)
      (records_both older.file.now older.numbers.now newer.file.now newer.numbers.now count refl)

  -- the file fits into an output, from its start
  module _ (before : Cursor) (start : before.at ≡ 0) {all : ℕ} (answered : Ok all ≡ length_answer count (length before.bytes.now)) where
    fits : file_fits count (length before.bytes.now) ≡ true
    fits = (if_ok _ _ refusal.Output all (sym answered)).0

    room : Room bytes before
    room = room_as (sym bytes_are) (file_room items count sixteen p start fits)

    written : {after : Cursor} → true ≡ both_labels items → count ≤ records_most → Put bytes before after
        → Comes (write_left (length before.bytes.now) p items) before.bytes.now (Ok all) after.bytes.now
    written labels most put =
        file_written items count sixteen p start fits counted _
        (left_all (length before.bytes.now) p items (sym labels) (le-leb (length items) records_most (omega (arith, counted)))
        (ap (λ (n : ℕ). file_fits n (length before.bytes.now)) counted ∙ fits))
        answered (put_as bytes_are put)

pub put_items-requires-clause-room : goal.put_items-requires-clause-room
put_items-requires-clause-room c =
    room_first _ _
    (room_then c.put_header.ensures (room c.args.older.now c.args.newer.now c.args.parameters _ refl c.in_ok-length.ensures))

pub put_items-requires-2-clause-room : goal.put_items-requires-2-clause-room
put_items-requires-2-clause-room c =
    room_then c.put_items.ensures
    (room_then c.put_header.ensures (room c.args.older.now c.args.newer.now c.args.parameters _ refl c.in_ok-length.ensures))

pub returns : goal.returns
returns c =
    let comes = written c.args.older.now c.args.newer.now c.args.parameters _ refl c.in_ok-length.ensures
    (sym c.if-not-have_both_labels.false ∙ c.have_both_labels.ensures) (omega arith)
    (put_then c.put_header.ensures (put_then c.put_items.ensures c.put_items-2.ensures)) in
    let left = comes.1 in
    record { answer = comes.0; output = search rules }
