-- `reading::reader::fetch_label` meets its contract: the label is that of the item at the place. Assumes nothing.
use mathlib.Core.Path.{ap, ◌∙◌}
use Rattle.training_file.specs.declared.item.Item.{Item}
use Rattle.training_file.specs.Record.{label_at}
use Rattle.reading.proofs.Laws.Reading.Accepted.{tabled_item}
use Rattle.reading.proofs.reader.fetch_label.Goals as goal

pub returns : goal.returns
returns c =
    c.label.ensures
    ∙ (λ i. label_at (c.record_at.ensures.0 i).now (c.record_at.ensures.1 i))
    ∙ ap (λ (item : Item). item.label) (tabled_item _ _ _ c.requires)
