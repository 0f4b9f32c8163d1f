-- The listing that the training program prints (document 01, last part of "Settled examples", and document 02, requests (k) and (l)), as a
-- list of bytes, of the lines that the crate `lines` defines. The documents' own example is in proofs/Examples.antt. Assumes nothing.
use Rattle.std.specs.Prelude.{◌≡◌, List, [], ◌++◌, ℕ, length, Result, Ok, Err}
use Rattle.buffer.specs.declared.put.Cursor.{Cursor}
use Rattle.buffer.specs.Put.{Put}
use Rattle.training_file.specs.declared.item.Item.{Item}
use Rattle.training_file.specs.declared.refusal.Refusal.{Refusal}
use Rattle.reading.specs.Reading.{Reading, refused, accepted}
use Rattle.dual_problem.specs.Problem.{problem, at}
use Rattle.smo.specs.declared.run.Trained.{Trained}
use Rattle.smo.specs.Run.{run_from_zeros}
use Rattle.smo.specs.Answers.{trained_of}
use Rattle.lines.specs.Lines.{items_with_total, refusal_line, result_line, shown_at}

-- what an answer of training prints, with the record numbers and the items in chain order and the multiplier of each: a refusal its line
-- alone, an ending the result line, the item lines and their total
unfoldable pub listing : Result Trained Refusal → List ℕ → List Item → (ℕ → ℕ) → List ℕ
listing (Err why) order items multiplier = refusal_line why
listing (Ok trained) order items multiplier = result_line trained ++ items_with_total (length items) (shown_at order items multiplier)

-- what a file prints, by what it is read as: training's own answer and multipliers
unfoldable pub listing_of : Reading → List ℕ
listing_of (refused why) = listing (Err why) [] [] (at [])
listing_of (accepted p order items) =
    listing (Ok (trained_of (problem p items) (run_from_zeros (problem p items) p.tolerance p.budget))) order items
    (at (run_from_zeros (problem p items) p.tolerance p.budget).multipliers)

-- what is put of a file that may be refused: its listing, or nothing beside the refusal
abbrev pub PutAccepted : Reading → Result Unit Refusal → Cursor → Cursor → Type 0
PutAccepted r (Ok done) before after = Put (listing_of r) before after
PutAccepted r (Err why) before after = (r ≡ refused why) × (after ≡ before)
