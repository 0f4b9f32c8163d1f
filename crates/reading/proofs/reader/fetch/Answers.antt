-- `reading::reader::fetch` meets its contract: the table's number is that of the item's record. Assumes nothing.
use mathlib.Core.Path.{◌∙◌}
use Rattle.training_file.specs.Record.{item_at}
use Rattle.reading.proofs.Laws.Reading.Accepted.{tabled_item}
use Rattle.reading.proofs.reader.fetch.Goals as goal

pub returns : goal.returns
returns c = c.item.ensures ∙ (λ i. item_at (c.record_at.ensures.0 i).now (c.record_at.ensures.1 i)) ∙ tabled_item _ _ _ c.requires
