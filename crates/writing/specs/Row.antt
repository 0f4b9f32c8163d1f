-- An item in memory, as a caller of the writer has it: a row of seventeen signed bytes, the sixteen features and then the label's number, 1 or
-- 2 as a record has it. Assumes nothing.
use Rattle.std.specs.Prelude.{Bool, List, [], ◌∷◌, ◌++◌, map, ℕ, ℤ, pos, length, get_or, Result}
use Rattle.integers.specs.Tabulate.{tabulate}
use Rattle.training_file.specs.declared.item.Label.TheVariants.{LookedUp}
use Rattle.training_file.specs.declared.item.Item.{Item}
use Rattle.training_file.specs.declared.parameters.Parameters.{Parameters}
use Rattle.training_file.specs.declared.refusal.Refusal.{Refusal}
use Rattle.training_file.specs.declared.refusal.Refusal.TheVariants as refusal
use Rattle.training_file.specs.Layout.{byte_of_signed, feature_count}
use Rattle.training_file.specs.Item.{byte_of_label, item_allowed, item_of, labelled}
use Rattle.training_file.specs.Record.{every}
use Rattle.training_file.specs.Answers.{ok_if}
use Rattle.written_file.specs.Stored.{Stores}

-- its first sixteen numbers
abbrev pub row_features : List ℤ → List ℤ
row_features row = tabulate feature_count (λ i. get_or row i (pos 0))

-- the label's number as the byte that a record has
abbrev pub row_label : List ℤ → ℕ
row_label row = byte_of_signed (get_or row feature_count (pos 0))

-- refusal 4 of an item in memory: "a wrong label, a feature outside its range, or a feature past d not 0"
abbrev pub row_allowed : ℕ → List ℤ → Bool
row_allowed d row = item_allowed d (row_label row) (row_features row)

abbrev pub row_item : List ℤ → Item
row_item row = item_of (row_label row) (row_features row)

abbrev pub row_items : List (List ℤ) → List Item
row_items rows = map row_item rows

-- the row of an item, and that of each of a list
abbrev pub item_row : Item → List ℤ
item_row item = item.features ++ (pos (byte_of_label item.label) ∷ [])

abbrev pub item_rows : List Item → List (List ℤ)
item_rows items = map item_row items

-- a file that stores parameters and rows, allowed or not, in the layout of request (b)
abbrev pub StoresRows : (file : List ℕ) → Parameters → List (List ℤ) → Type 0
StoresRows file p rows = Stores file p (length rows) (λ k. row_label (get_or rows k [])) (λ k. row_features (get_or rows k []))

-- how many rows are looked up, or refusal 4
abbrev pub rows_answer : ℕ → List (List ℤ) → Result ℕ Refusal
rows_answer d rows = ok_if (every (row_allowed d) rows) (labelled LookedUp (row_items rows)) refusal.Record
