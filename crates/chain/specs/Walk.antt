-- The walk along the chain of a training file, to the letter: document 01, "The training file", and document 02, request (k). Records are
-- numbered from 1, m are stored, and `next r` is the next number that record r holds. Assumes nothing.
use Rattle.std.specs.Prelude.{◌≡◌, ◌≢◌, Bool, ◌&&◌, not, cond, List, [], ◌∷◌, ◌++◌, ℕ, zero, suc, ◌≤◌, ◌<◌, ltb, leb, eqb, length, get_or}
use Rattle.integers.specs.Member.{member}

-- the last of the records met; 0, which is no record's number, where there is none
abbrev pub last_of : List ℕ → ℕ
last_of [] = 0
last_of (r ∷ []) = r
last_of (r ∷ q ∷ met) = last_of (q ∷ met)

-- where a walk is led that has met these records, in order: to the first record of the chain, and then by the next field of the last one met
abbrev pub led_to : (next : ℕ → ℕ) (first : ℕ) (met : List ℕ) → ℕ
led_to next first [] = first
led_to next first (r ∷ met) = next (last_of (r ∷ met))

-- whether a walk that has met these records goes on to this number: it is one of 1 to m, and not among them
abbrev pub goes_on : (m : ℕ) (met : List ℕ) (number : ℕ) → Bool
goes_on m met number = leb 1 number && leb number m && not (member number met)

-- the records that a walk has met so many turns later, where it has met these: in each turn the one it is led to, as long as it goes on
unfoldable pub records_met : (next : ℕ → ℕ) (m first turns : ℕ) (met : List ℕ) → List ℕ
records_met next m first zero met = met
records_met next m first (suc turns) met =
    let number = led_to next first met in
    cond (goes_on m met number) (records_met next m first turns (met ++ (number ∷ []))) met

-- What a walk comes to: it ends with the records met, in chain order, or it is broken, with a refusal's number and "the number of the record
-- whose next field is at fault, the first on the walk".
pub data Walk : Type 0 where
  ends : List ℕ → Walk
  broken : (number r : ℕ) → Walk

-- What a walk comes to that has met these records and does not go on to the number that it is led to: "0 ends the chain"; 3, "only a next
-- number over m"; 16, "a next field that leads to a record already met". The next field at fault is that of the last record met.
abbrev pub comes_to : (m : ℕ) (met : List ℕ) (number : ℕ) → Walk
comes_to m met number = cond (eqb number 0) (ends met) (cond (ltb m number) (broken 3 (last_of met)) (broken 16 (last_of met)))

-- that a walk meets these records, in order, without the walk: the first of the chain, then each time the next of the one before, all of 1
-- to m and none twice. So no record before the last one is at fault.
pub record Walked (next : ℕ → ℕ) (m first : ℕ) (met : List ℕ) : Type 0 where
  pub starts : 0 < length met → get_or met 0 0 ≡ first
  pub within : (k : ℕ) → k < length met → (1 ≤ get_or met k 0) × (get_or met k 0 ≤ m)
  pub links : (k : ℕ) → suc k < length met → next (get_or met k 0) ≡ get_or met (suc k) 0
  pub distinct : (j k : ℕ) → j < k → k < length met → get_or met j 0 ≢ get_or met k 0
