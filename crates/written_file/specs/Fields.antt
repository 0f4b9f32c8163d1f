-- Numbers as bytes: the other way round from Layout of the crate `training_file`. Assumes nothing.
use Rattle.std.specs.Prelude.{List, [], ◌∷◌, ◌++◌, map, ℕ, ◌/◌, ◌%◌, ℤ}
use Rattle.training_file.specs.Layout.{byte_of_signed}

-- "all fields little endian": of two, four or eight bytes the lower half stands first
abbrev pub bytes2 : ℕ → List ℕ
bytes2 number = (number % 256) ∷ (number / 256) ∷ []

abbrev pub bytes4 : ℕ → List ℕ
bytes4 number = bytes2 (number % 65536) ++ bytes2 (number / 65536)

abbrev pub bytes8 : ℕ → List ℕ
bytes8 number = bytes4 (number % 4294967296) ++ bytes4 (number / 4294967296)

-- "each a signed byte"
abbrev pub signed_bytes : List ℤ → List ℕ
signed_bytes numbers = map byte_of_signed numbers
