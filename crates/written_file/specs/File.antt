-- The training file of parameters and items: document 02, request (b), "Items are stored as records 1 to n, chained in that order, with no
-- spares", each field in its place by document 01, "The training file". Assumes nothing.
use Rattle.std.specs.Prelude.{cond, List, [], ◌∷◌, ◌++◌, ℕ, zero, suc, ◌+◌, ◌*◌, ltb, ℤ, length}
use Rattle.training_file.specs.declared.parameters.Parameters.{Parameters}
use Rattle.training_file.specs.declared.item.Item.{Item}
use Rattle.training_file.specs.Parameters.{byte_of_kernel}
use Rattle.training_file.specs.Item.{byte_of_label, item_in}
use Rattle.written_file.specs.Fields.{bytes2, bytes4, bytes8, signed_bytes}

-- the record that follows the first k of n records: record k + 1, and after the last one 0. The chain's first record follows none.
abbrev pub following : (n k : ℕ) → ℕ
following n k = cond (ltb k n) (suc k) 0

-- bytes 0 to 7: "m, records stored", "first record of the chain, 0 for an empty chain", "d, features in use", "kernel", "spare"
abbrev pub count_bytes : (records used kernel : ℕ) → List ℕ
count_bytes records used kernel = bytes2 records ++ bytes2 (following records 0) ++ (used ∷ []) ++ (kernel ∷ []) ++ bytes2 0

-- bytes 8 to 31: S, c, t, the step budget, and the ceiling for label −1 "as given, a 0 staying 0" (document 02, request (f))
abbrev pub unit_bytes : (grid ceiling tolerance budget second_ceiling : ℕ) → List ℕ
unit_bytes grid ceiling tolerance budget second_ceiling = bytes4 grid ++ bytes4 ceiling ++ bytes8 tolerance ++ bytes4 budget ++ bytes4 second_ceiling

-- "The header has 32 bytes."
abbrev pub header_bytes : ℕ → Parameters → List ℕ
header_bytes records p =
    count_bytes records p.used (byte_of_kernel p.kernel)
    ++ unit_bytes p.grid p.ceiling p.tolerance p.budget p.second_ceiling

-- "bytes 0-1 the next record", "byte 2 the label", "byte 3 zero", "bytes 4-19 sixteen features"
abbrev pub record_bytes : (next label : ℕ) → List ℤ → List ℕ
record_bytes next label features = bytes2 next ++ (label ∷ []) ++ (0 ∷ []) ++ signed_bytes features

-- the record that holds an item
abbrev pub item_record : (next : ℕ) → Item → List ℕ
item_record next item = record_bytes next (byte_of_label item.label) item.features

-- the first k of n records, one after the other: record k + 1 has the bytes `record_at next k`, by its next number
unfoldable pub records_to : (n : ℕ) → ((next k : ℕ) → List ℕ) → ℕ → List ℕ
records_to n record_at zero = []
records_to n record_at (suc k) = records_to n record_at k ++ record_at (following n (suc k)) k

-- the records of a list of items
abbrev pub item_records : List Item → (n k : ℕ) → List ℕ
item_records items n k = records_to n (λ next place. item_record next (item_in items place)) k

-- the file of parameters and items
abbrev pub file_of : Parameters → List Item → List ℕ
file_of p items = header_bytes (length items) p ++ item_records items (length items) (length items)

-- "a length other than 32 + 20 × m" is refused, and m is n
abbrev pub file_length : ℕ → ℕ
file_length n = 32 + 20 * n
