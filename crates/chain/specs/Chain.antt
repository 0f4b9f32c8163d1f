-- The chain of a training file: what the walk from its first record comes to. Document 01, "The training file", and document 02, request
-- (k). Assumes nothing.
use Rattle.std.specs.Prelude.{◌≡◌, ◌⊎◌, List, [], ℕ, suc, ◌≤◌, ◌<◌, length, get_or}
use Rattle.training_file.specs.Layout.{first_record, next_of, records_stored}
use Rattle.chain.specs.Walk.{Walk, Walked, comes_to, led_to, records_met}

-- "The n items are the chained records in chain order": what the walk from the first record comes to. After m turns it has stopped, since
-- no walk meets more than m records (`walk_stops`).
abbrev pub chain : (next : ℕ → ℕ) (m first : ℕ) → Walk
chain next m first = let met = records_met next m first m [] in comes_to m met (led_to next first met)

-- the chain of the file, walked over the next numbers of its records
abbrev pub chain_of : List ℕ → Walk
chain_of file = chain (next_of file) (records_stored file) (first_record file)

-- ---- the same without the walk

-- That rs are the chained records "in chain order": the walk meets them, and the next number of the last one is 0. A place past the end of
-- rs reads 0, so that `starts` covers the empty chain and `links` the last record.
pub record IsChain (next : ℕ → ℕ) (m first : ℕ) (rs : List ℕ) : Type 0 where
  pub walked : Walked next m first rs
  pub starts : get_or rs 0 0 ≡ first
  pub links : (k : ℕ) → k < length rs → next (get_or rs k 0) ≡ get_or rs (suc k) 0

-- That the chain breaks at record r with a number: r is the last of the records that the walk meets, and its next field is at fault. 3:
-- that is over m. 16: it leads to a record already met, which may be r itself.
pub record IsFault (next : ℕ → ℕ) (m first number r : ℕ) : Type 0 where
  pub met : List ℕ
  pub walked : Walked next m first met
  pub place : ℕ
  pub last : suc place ≡ length met
  pub is : get_or met place 0 ≡ r
  pub fault : ((number ≡ 3) × (m < next r)) ⊎ ((number ≡ 16) × ((k : ℕ) × (k ≤ place) × (get_or met k 0 ≡ next r)))

-- both of a file
abbrev pub ChainIn : (file rs : List ℕ) → Type 0
ChainIn file rs = IsChain (next_of file) (records_stored file) (first_record file) rs

abbrev pub FaultIn : (file : List ℕ) (number r : ℕ) → Type 0
FaultIn file number r = IsFault (next_of file) (records_stored file) (first_record file) number r
