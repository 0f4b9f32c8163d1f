-- The items left of two files and their records, for the code that puts those of one file after those of the other. Assumes nothing.
use Rattle.std.specs.Prelude.{List, [], ◌∷◌, ◌++◌, ℕ, suc}
use Rattle.training_file.specs.declared.item.Item.{Item}
use Rattle.written_file.specs.File.{following, item_record}
use Rattle.last_items.specs.declared.records.Records.{Records}
use Rattle.last_items.specs.Kept.{items_at}
use Rattle.last_items.specs.Records.{items_of}

-- the items of records of two files, the older's first
abbrev pub both_items : (older numbers newer others : List ℕ) → List Item
both_items older numbers newer others = items_at older numbers ++ items_at newer others

-- the same of records that are left of both files
abbrev pub both_left : (older newer : Records) → List Item
both_left older newer = items_of older ++ items_of newer

-- the records of items that stand at places k, k + 1 and so on of n records
unfoldable pub records_from : (n k : ℕ) → List Item → List ℕ
records_from n k [] = []
records_from n k (item ∷ items) = item_record (following n (suc k)) item ++ records_from n (suc k) items
