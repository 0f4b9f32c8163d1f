-- A record judged and read: refusal 4 of document 01, and the item that the record holds. Assumes nothing.
use Rattle.std.specs.Prelude.{Bool, true, ◌&&◌, List, [], ◌∷◌, map, ℕ, ◌+◌, ◌*◌, ◌≤◌, eqb, ℤ, length}
use Rattle.training_file.specs.declared.item.Label.{Label}
use Rattle.training_file.specs.declared.item.Item.{Item}
use Rattle.training_file.specs.Layout.{feature_bytes, label_byte, signed_byte, zero_byte}
use Rattle.training_file.specs.Item.{item_allowed, item_of, label_of_byte}

-- the features of a record
abbrev pub features_at : List ℕ → ℕ → List ℤ
features_at file r = map signed_byte (feature_bytes file r)

-- refusal 4, of record r on the chain with d features in use: "a wrong label, byte 3 not 0, a feature outside its range, or a
-- feature past d not 0"
unfoldable pub record_allowed : ℕ → List ℕ → ℕ → Bool
record_allowed d file r = eqb (zero_byte file r) 0 && item_allowed d (label_byte file r) (features_at file r)

-- whether a test holds of each of a list, as of the records on the chain
unfoldable pub every : {A : Type 0} → (A → Bool) → List A → Bool
every test [] = true
every test (first ∷ rest) = test first && every test rest

-- the label of a record that is allowed, and its item
abbrev pub label_at : List ℕ → ℕ → Label
label_at file r = label_of_byte (label_byte file r)

abbrev pub item_at : List ℕ → ℕ → Item
item_at file r = item_of (label_byte file r) (features_at file r)

-- that record r stands whole in the file, which whoever reads it relies on
pub record Stored (file : List ℕ) (r : ℕ) : Type 0 where
  pub numbered : 1 ≤ r
  pub whole : 32 + 20 * r ≤ length file
