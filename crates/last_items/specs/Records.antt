-- The items of records, for contracts. Assumes nothing.
use Rattle.std.specs.Prelude.{List}
use Rattle.training_file.specs.declared.item.Item.{Item}
use Rattle.last_items.specs.declared.records.Records.{Records}
use Rattle.last_items.specs.Kept.{items_at}

-- the items of records
abbrev pub items_of : Records → List Item
items_of records = items_at records.file.now records.numbers.now
