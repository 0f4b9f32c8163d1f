-- `importing::passes::put_lines` meets its contract. The loop's invariant: the records of the lines so far are put. Assumes nothing.
use mathlib.Core.Path.{◌≡◌}
use mathlib.Core.List.{List}
use Prim.Native.Nat.{ℕ}
use lib.ListN.{length}
use Rattle.buffer.specs.declared.put.Cursor.{Cursor}
use Rattle.buffer.specs.Put.{Put}
use Rattle.written_file.specs.File.{item_records}
use Rattle.libsvm_text.specs.Form.{Line}
use Rattle.libsvm_text.specs.Lines.{text_lines}
use Rattle.importing.specs.Judged.{found_items}
use Rattle.importing.proofs.Laws.Passes.{LinesTo}
use Rattle.importing.proofs.passes.put_lines.Given as goal

-- the lines so far, whose records are put
pub record PutTo (d : ℕ) (text : List ℕ) (count at k : ℕ) (before after : Cursor) : Type 0 where
  pub lines : List Line
  pub to : LinesTo d text at lines
  pub counted : k ≡ length lines
  pub done : Put (item_records (found_items (text_lines d text)) count k) before after

abbrev pub invariant-loop-k : goal.invariant-loop-k
invariant-loop-k l = PutTo l.used l.text l.lines l.at l.k l.initial.out l.out
