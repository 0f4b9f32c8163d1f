-- `importing::passes::put_lines` meets its contract. The loop's invariant: the records of the lines so far are put. Assumes nothing.
use mathlib.Core.Path.{◌≡◌, refl, sym, ◌∙◌, ap, ap₂}
use mathlib.Core.List.{List, [], ◌∷◌, ◌++◌}
use Prim.Native.Nat.{ℕ, ◌+◌, ◌<◌}
use native.Mathlib.Numerals.{add-one}
use native.Mathlib.Omega.{arith}
use lib.IntN.{ℤ}
use lib.ListN.{length, length-append}
use Rattle.std.specs.Prelude.{Some}
use Rattle.buffer.proofs.Laws.Put.{put_as, put_none, put_then, room_as}
use Rattle.training_file.specs.declared.item.Item.{Item}
use Rattle.training_file.specs.Layout.{feature_count}
use Rattle.training_file.specs.Item.{item_in}
use Rattle.written_file.specs.File.{following, item_record, records_to}
use Rattle.written_file.proofs.Laws.Records.{record_more, record_room, record_of}
use Rattle.libsvm_text.specs.declared.line.LineRead.{LineRead}
use Rattle.libsvm_text.specs.declared.place.Found.{Found}
use Rattle.libsvm_text.specs.Form.{Line}
use Rattle.libsvm_text.specs.Lines.{text_lines}
use Rattle.libsvm_text.specs.Read.{LineFound}
use Rattle.libsvm_text.proofs.Laws.Ends.{found_ends}
use Rattle.importing.specs.Judged.{Importable, found_items}
use Rattle.importing.proofs.Laws.Passes.{LinesTo, features_stand, goes_on_to, item_stands, items_are, items_sixteen, line_read, to_more, to_none}
use Rattle.importing.proofs.passes.put_lines.Goals as goal

-- the line that was read, and its record
module _ (d : ℕ) (text : List ℕ) (count : ℕ) (told : Importable d text count) where
  abbrev items : List Item
  items = found_items (text_lines d text)

  sixteen : (k : ℕ) → k < count → length (item_in items k).features ≡ feature_count
  sixteen = items_sixteen d text count told

  module _ (at : ℕ) (so_far : List Line) (to : LinesTo d text at so_far) (k : ℕ) (counted : k ≡ length so_far) {line : Found LineRead} (next : LineFound d text at line) where
    -- what is put is the record of the item at this place
    record_is : {features : List ℤ} {number : ℕ} → line.what.features ≡ Some features → number ≡ following count (k + 1)
        → item_record number (record { features = features; label = line.what.label }) ≡ record_of items count sixteen k
    record_is has n =
        ap₂ item_record (n ∙ ap (following count) (add-one k))
        (item_stands d text told.lines told.found at so_far to next told.allowed has ∙ ap₂ item_in (sym (items_are d text count told)) (sym counted))

pub loop-k-init : goal.loop-k-init
unfolding records_to
loop-k-init c = record { lines = []; to = to_none _ _; counted = refl; done = put_none _ }

pub invariant_of-read_line : goal.invariant_of-read_line
invariant_of-read_line c =
    let told = c.requires.importable in
    let so_far = c.loop-k.invariant in
    record {
      ends = found_ends _ _ told.lines told.found;
      within = goes_on_to _ _ told.lines told.found _ so_far.lines so_far.to (omega (arith, c.loop-k-test.true, so_far.counted, told.counted));
      few = told.used;
    }

pub unwrap-requires : goal.unwrap-requires
unwrap-requires c =
    let told = c.requires.importable in
    let so_far = c.loop-k.invariant in
    let next = line_read c.args.used c.args.text.now c.loop-k.at c.read_line.result c.read_line.ensures c.unwrap-found.ensures in
    features_stand _ _ told.lines told.found _ so_far.lines so_far.to next told.allowed

pub put_record-requires : goal.put_record-requires
put_record-requires c =
    let told = c.requires.importable in
    let so_far = c.loop-k.invariant in
    let next = line_read c.args.used c.args.text.now c.loop-k.at c.read_line.result c.read_line.ensures c.unwrap-found.ensures in
    let is = record_is _ _ _ told _ so_far.lines so_far.to _ so_far.counted next c.unwrap.ensures c.following.ensures in
    room_as (sym is) (record_room _ c.args.lines (sixteen _ _ _ told) c.loop-k.k c.loop-k-test.true c.requires.room so_far.done)

pub loop-k-preserved : goal.loop-k-preserved
loop-k-preserved c =
    let told = c.requires.importable in
    let so_far = c.loop-k.invariant in
    let next = line_read c.args.used c.args.text.now c.loop-k.at c.read_line.result c.read_line.ensures c.unwrap-found.ensures in
    let is = record_is _ _ _ told _ so_far.lines so_far.to _ so_far.counted next c.unwrap.ensures c.following.ensures in
    record {
      lines = so_far.lines ++ (next.line ∷ []);
      to = to_more _ _ _ so_far.lines so_far.to next;
      counted = omega (arith, so_far.counted, length-append so_far.lines (next.line ∷ []));
      done = put_as (record_more _ c.args.lines (sixteen _ _ _ told) c.loop-k.k) (put_then so_far.done (put_as is c.put_record.ensures));
    }
