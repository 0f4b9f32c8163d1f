-- `reading::reader::record_at` meets its contract: the table's number is that of a record that stands in the file. Assumes nothing.
use Rattle.reading.proofs.Laws.Reading.Accepted.{tabled_stored}
use Rattle.reading.proofs.reader.record_at.Goals as goal

pub invariant_of-result : goal.invariant_of-result
invariant_of-result c = record { stored = tabled_stored _ _ _ c.requires }
