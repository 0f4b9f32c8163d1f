-- Where each field of a training file stands: every offset, in the order of document 01, "The training file". A file is the
-- list of its bytes. A place past its end reads as 0; no rule rests on one, since a wrong length is refused first.
use Rattle.std.specs.Prelude.{cond, List, ℕ, ◌+◌, ◌-◌, ◌*◌, ltb, ℤ, pos, negsuc, get_or, take, drop}

abbrev pub byte_at : List ℕ → ℕ → ℕ
byte_at file at = get_or file at 0

-- "all fields little endian": of two, four or eight bytes the lower half stands first
abbrev pub le2 : List ℕ → ℕ → ℕ
le2 file at = byte_at file at + 256 * byte_at file (at + 1)

abbrev pub le4 : List ℕ → ℕ → ℕ
le4 file at = le2 file at + 65536 * le2 file (at + 2)

abbrev pub le8 : List ℕ → ℕ → ℕ
le8 file at = le4 file at + 4294967296 * le4 file (at + 4)

-- the signed number that a byte holds, at most 128 in size: `negsuc k` is −1 − k, so 255 is −1 and 128 is −128
abbrev pub signed_byte : ℕ → ℤ
signed_byte byte = cond (ltb byte 128) (pos byte) (negsuc (255 - byte))

abbrev pub signed_most : ℕ
signed_most = 128

-- the byte that holds a signed number of −128 to 127: each of the two ways is the other's inverse there (`signed_back`, `signed_byte_back`)
abbrev pub byte_of_signed : ℤ → ℕ
byte_of_signed (pos n) = n
byte_of_signed (negsuc k) = 255 - k

-- ---- "The header has 32 bytes."

-- "m, records stored"
abbrev pub records_stored : List ℕ → ℕ
records_stored file = le2 file 0

-- "first record of the chain, 0 for an empty chain"
abbrev pub first_record : List ℕ → ℕ
first_record file = le2 file 2

-- "d, features in use"
abbrev pub features_in_use : List ℕ → ℕ
features_in_use file = byte_at file 4

-- "kernel"
abbrev pub kernel_byte : List ℕ → ℕ
kernel_byte file = byte_at file 5

-- "spare", bytes 6-7
abbrev pub spare : List ℕ → ℕ
spare file = le2 file 6

-- "S, grid units per 1"
abbrev pub grid_units : List ℕ → ℕ
grid_units file = le4 file 8

-- "c, ceiling of a multiplier in grid units", which "serves label +1" (document 02, request (f))
abbrev pub ceiling_units : List ℕ → ℕ
ceiling_units file = le4 file 12

-- "t, tolerance in grid units"
abbrev pub tolerance_units : List ℕ → ℕ
tolerance_units file = le8 file 16

-- "step budget"
abbrev pub step_budget : List ℕ → ℕ
step_budget file = le4 file 24

-- "the ceiling for label −1" (document 02, request (f))
abbrev pub second_ceiling_units : List ℕ → ℕ
second_ceiling_units file = le4 file 28

-- ---- "Then come m records of 20 bytes, numbered from 1"

abbrev pub record_start : ℕ → ℕ
record_start r = 32 + 20 * (r - 1)

-- "bytes 0-1 the next record (0 ends the chain)"
abbrev pub next_of : List ℕ → ℕ → ℕ
next_of file r = le2 file (record_start r)

-- "byte 2 the label"
abbrev pub label_byte : List ℕ → ℕ → ℕ
label_byte file r = byte_at file (record_start r + 2)

-- "byte 3 zero"
abbrev pub zero_byte : List ℕ → ℕ → ℕ
zero_byte file r = byte_at file (record_start r + 3)

-- "bytes 4-19 sixteen features"
abbrev pub feature_count : ℕ
feature_count = 16

abbrev pub feature_bytes : List ℕ → ℕ → List ℕ
feature_bytes file r = take feature_count (drop (record_start r + 4) file)
