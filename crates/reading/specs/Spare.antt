-- Document 01: "Records off the chain may hold any bytes and are not judged." What two files have in common that are read alike for it
-- (`spare_records`). Assumes nothing.
use Rattle.std.specs.Prelude.{◌≡◌, List, ℕ, ◌+◌, ◌≤◌, ◌<◌, length, get_or}
use Rattle.training_file.specs.Layout.{byte_at, first_record, next_of, record_start, records_stored}
use Rattle.chain.specs.Walk.{Walked}

-- two files have the same bytes at `size` places from `start`
abbrev pub Alike : (f g : List ℕ) (start size : ℕ) → Type 0
Alike f g start size = (at : ℕ) → start ≤ at → at < start + size → byte_at f at ≡ byte_at g at

-- the record is on the chain of a file, ended or broken: a walk meets it
pub record OnChain (file : List ℕ) (r : ℕ) : Type 0 where
  pub met : List ℕ
  pub walked : Walked (next_of file) (records_stored file) (first_record file) met
  pub place : ℕ
  pub held : place < length met
  pub is : get_or met place 0 ≡ r

-- the files are of one length, and the same in the header and in every record on the chain of the first
pub record SameChained (f g : List ℕ) : Type 0 where
  pub lengths : length f ≡ length g
  pub header : Alike f g 0 32
  pub records : (r : ℕ) → OnChain f r → Alike f g (record_start r) 20
