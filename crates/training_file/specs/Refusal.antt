-- A refusal: document 01, "Refusals by the party who can cause them", and document 02, request (k): numbers 3 and 16 "carry the number of
-- the record whose next field is at fault"; "other refusals carry none". Assumes nothing.
use Rattle.std.specs.Prelude.{◌≡◌, ◌≢◌, ◌⊎◌, true, cond, List, [], ◌∷◌, ℕ, ◌≤◌, eqb}
use Rattle.integers.specs.Member.{member}
use Rattle.training_file.specs.declared.refusal.Refusal.{Refusal}
use Rattle.training_file.specs.declared.refusal.Refusal.TheVariants.{FileLength, Header, NextOver, Record, Labels, ListLength, Multiplier, Balance, WordFeature, Output, Text, Lines, Unlike, Pool, NextMet}

-- the number by which the documents name it
abbrev pub number_of : Refusal → ℕ
number_of FileLength = 1
number_of Header = 2
number_of (NextOver r) = 3
number_of Record = 4
number_of Labels = 5
number_of ListLength = 6
number_of Multiplier = 7
number_of Balance = 8
number_of WordFeature = 9
number_of Output = 10
number_of Text = 11
number_of Lines = 12
number_of Unlike = 14
number_of Pool = 15
number_of (NextMet r) = 16

-- the record that it carries; 0, which is no record's number, where it carries none
abbrev pub record_of : Refusal → ℕ
record_of FileLength = 0
record_of Header = 0
record_of (NextOver r) = r
record_of Record = 0
record_of Labels = 0
record_of ListLength = 0
record_of Multiplier = 0
record_of Balance = 0
record_of WordFeature = 0
record_of Output = 0
record_of Text = 0
record_of Lines = 0
record_of Unlike = 0
record_of Pool = 0
record_of (NextMet r) = r

-- the refusal of a chain that breaks, by its number, 3 or 16, and the record
abbrev pub refusal_at : (number r : ℕ) → Refusal
refusal_at number r = cond (eqb number 3) (NextOver r) (NextMet r)

-- ---- with which numbers each call can refuse, in the order in which they are tested; one walk finds 3 and 16

abbrev pub reading_refuses : List ℕ
reading_refuses = 1 ∷ 2 ∷ 3 ∷ 16 ∷ 4 ∷ 5 ∷ []

abbrev pub training_refuses : List ℕ
training_refuses = 1 ∷ 2 ∷ 3 ∷ 16 ∷ 4 ∷ 5 ∷ 6 ∷ []

abbrev pub certifying_refuses : List ℕ
certifying_refuses = 1 ∷ 2 ∷ 3 ∷ 16 ∷ 4 ∷ 5 ∷ 6 ∷ 7 ∷ 8 ∷ []

abbrev pub classifying_refuses : List ℕ
classifying_refuses = 1 ∷ 2 ∷ 3 ∷ 16 ∷ 4 ∷ 5 ∷ 6 ∷ 7 ∷ 8 ∷ 9 ∷ []

-- "Checks are those of the reader in the order 2, 1 (over 256 items), 4, 5", then 10 (document 02, request (b))
abbrev pub writing_refuses : List ℕ
writing_refuses = 2 ∷ 1 ∷ 4 ∷ 5 ∷ 10 ∷ []

-- "The order is 2, 11, 12, then 4, 5, 10" (document 02, request (c))
abbrev pub importing_refuses : List ℕ
importing_refuses = 2 ∷ 11 ∷ 12 ∷ 4 ∷ 5 ∷ 10 ∷ []

-- those of either file, then 14; 5 comes up once more, of the items left, ahead of 15 and 10 (document 02, request (h))
abbrev pub pooling_refuses : List ℕ
pooling_refuses = 1 ∷ 2 ∷ 3 ∷ 16 ∷ 4 ∷ 5 ∷ 14 ∷ 15 ∷ 10 ∷ []

-- the record that is carried: with 3 and 16 one of 1 to 256, otherwise none, for which 0 stands, also where nothing is refused
pub record RecordCarried (why : Refusal) : Type 0 where
  pub at_fault : (number_of why ≡ 3) ⊎ (number_of why ≡ 16) → (1 ≤ record_of why) × (record_of why ≤ 256)
  pub otherwise : number_of why ≢ 3 → number_of why ≢ 16 → record_of why ≡ 0

-- a refusal with one of these numbers
pub record OneOf (numbers : List ℕ) (why : Refusal) : Type 0 where
  pub listed : member (number_of why) numbers ≡ true
  pub carried : RecordCarried why
