-- Laws of putting the file of items into an output: its records one after the other, and the header before them. Assumes nothing.
use mathlib.Core.Path.{◌≡◌, sym, ◌∙◌, ap}
use mathlib.Core.Bool.{true}
use mathlib.Core.List.{List, ◌++◌}
use Prim.Native.Nat.{ℕ, suc, ◌+◌, ◌<◌}
use native.Mathlib.Numerals.{add-one}
use native.Mathlib.Omega.{arith}
use lib.ListN.{length}
use borrow.Author.Tests.{leb-true}
use Rattle.std.proofs.Common.{Result, Ok}
use Rattle.buffer.specs.declared.put.Cursor.{Cursor}
use Rattle.buffer.specs.Put.{Put, Room}
use Rattle.buffer.proofs.Laws.Put.{put_as, put-length}
use Rattle.training_file.specs.declared.refusal.Refusal.{Refusal}
use Rattle.training_file.specs.declared.refusal.Refusal.TheVariants as refusal
use Rattle.training_file.specs.declared.parameters.Parameters.{Parameters}
use Rattle.training_file.specs.declared.item.Item.{Item}
use Rattle.training_file.specs.Layout.{feature_count}
use Rattle.training_file.specs.Item.{item_in}
use Rattle.training_file.specs.Answers.{ok_if}
use Rattle.written_file.specs.File.{file_length, file_of, following, header_bytes, item_record, item_records, records_to}
use Rattle.written_file.specs.Output.{Writing, file_fits, length_answer, wrote}
use Rattle.written_file.proofs.Laws.File.{file-length, item_records-length, item_twenty}
use Rattle.written_file.proofs.Laws.Output.{Comes, writes}

module _ (items : List Item) (n : ℕ) (sixteen : (k : ℕ) → k < n → length (item_in items k).features ≡ feature_count) where
  -- the record of the item at place k
  abbrev pub record_of : ℕ → List ℕ
  record_of k = item_record (following n (suc k)) (item_in items k)

  -- one more: it has room where all have, and joins those before it
  pub record_room : (k : ℕ) {before after : Cursor} → k < n
      → Room (item_records items n n) before → Put (item_records items n k) before after → Room (record_of k) after
  record_room k h room put =
      let size = item_records-length items n sixteen in
      record {
        fits =
            omega (arith, room.fits, put.ends, put-length put, size n (omega arith), size k (omega arith), item_twenty items n sixteen (following n (suc k)) k h);
      }

  pub record_more : (k : ℕ) → item_records items n k ++ record_of k ≡ item_records items n (k + 1)
  unfolding records_to
  record_more k = rw add-one

  module _ (p : Parameters) where
    -- header and records, as they are put
    abbrev pub file_put : List ℕ
    file_put = header_bytes n p ++ item_records items n n

    module _ {before : Cursor} (start : before.at ≡ 0) (f : file_fits n (length before.bytes.now) ≡ true) where
      pub file_room : Room file_put before
      file_room = record { fits = omega (arith, start, file-length items n sixteen p, leb-true (file_length n) (length before.bytes.now) f) }

      -- once they are put, a call that comes to the file of these items has written it
      pub file_written : length items ≡ n → (w : Writing) {answer : Result ℕ Refusal} {after : Cursor} → w ≡ wrote (file_of p items)
          → answer ≡ length_answer n (length before.bytes.now) → Put file_put before after → Comes w before.bytes.now answer after.bytes.now
      file_written counted w e answered put =
          let is : file_put ≡ file_of p items = ap (λ (m : ℕ). header_bytes m p ++ item_records items m m) (sym counted) in
          writes w (file_of p items) start (omega (arith, ap length is, file_room.fits, start)) (put_as is put) e
          (answered ∙ ap (λ t. ok_if t (file_length n) refusal.Output) f ∙ ap Ok (sym (file-length items n sixteen p) ∙ ap length is))
