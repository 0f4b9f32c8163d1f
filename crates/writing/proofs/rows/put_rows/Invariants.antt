-- `writing::rows::put_rows` meets its contract. The loop's invariant: the records of the rows passed are put. Assumes nothing.
use lib.ListN.{length}
use Rattle.buffer.specs.Put.{Put}
use Rattle.written_file.specs.File.{item_records}
use Rattle.writing.specs.Row.{row_items}
use Rattle.writing.proofs.rows.put_rows.Given as goal

abbrev pub invariant-loop-k : goal.invariant-loop-k
invariant-loop-k l = Put (item_records (row_items l.rows) (length l.rows) l.k) l.initial.out l.out
