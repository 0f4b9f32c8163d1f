-- What the code that finds the last of equal items rests on: records by their numbers, and a hash of their features. Assumes nothing.
use Rattle.std.specs.Prelude.{◌≡◌, Bool, List, ◌++◌, map, ℕ, ◌+◌, ◌*◌, ◌/◌, ◌%◌, ◌≤◌, ◌<◌, length, get_or, take}
use Rattle.training_file.specs.declared.item.Item.{Item}
use Rattle.training_file.specs.Layout.{byte_at, feature_bytes, feature_count, le4}
use Rattle.training_file.specs.Parameters.{records_most}
use Rattle.training_file.specs.Record.{Stored, item_at}
use Rattle.last_items.specs.Last.{is_last, staying}

-- the items of records, by their numbers
abbrev pub items_at : (file numbers : List ℕ) → List Item
items_at file numbers = map (item_at file) numbers

-- that a file is of bytes: of a slice in a struct a proof doesn't know it by itself
abbrev pub AllBytes : (file : List ℕ) → Type 0
AllBytes file = (i : ℕ) → byte_at file i < 256

-- that each of the records stands whole in the file
abbrev pub AllStored : (file numbers : List ℕ) → Type 0
AllStored file numbers = (k : ℕ) → k < length numbers → Stored file (get_or numbers k 0)

-- the same of records that are as many at most as a file stores
pub record FewStored (file numbers : List ℕ) : Type 0 where
  pub few : length numbers ≤ records_most
  pub stored : AllStored file numbers

-- a number of 32 bits that the sixteen feature bytes determine: records with other hashes have other features. The factors are odd and
-- unlike, so that records which differ in a few features seldom have the same one; nothing rests on that.
abbrev pub hash : (bytes : List ℕ) → ℕ
hash bytes = (1000003 * le4 bytes 0 + 10000019 * le4 bytes 4 + (100000007 * le4 bytes 8 + 1000000007 * le4 bytes 12)) / 65536 % 4294967296

abbrev pub hash_at : (file : List ℕ) → ℕ → ℕ
hash_at file r = hash (feature_bytes file r)

abbrev pub hashes_at : (file numbers : List ℕ) → List ℕ
hashes_at file numbers = map (hash_at file) numbers

-- of the records of a file, those whose items stay where these items follow. All sixteen features are compared: those past d are 0.
abbrev pub stays_at : (file : List ℕ) → (later : List Item) → ℕ → List ℕ → Bool
stays_at file later r numbers = is_last feature_count (item_at file r) (items_at file numbers ++ later)

abbrev pub staying_at : (file : List ℕ) → (later : List Item) → (numbers : List ℕ) → List ℕ
staying_at file later numbers = staying (stays_at file later) numbers

-- what moving them to the first places leaves of the numbers: so many of them stay, and stand there
pub record Kept (file : List ℕ) (later : List Item) (before after : List ℕ) (count : ℕ) : Type 0 where
  pub places : length after ≡ length before
  pub most : count ≤ length before
  pub first : take count after ≡ staying_at file later before
