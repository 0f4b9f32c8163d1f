-- Laws of refusals. Assumes nothing.
use mathlib.Core.Path.{◌≡◌, refl, ap, sym, ◌∙◌}
use mathlib.Core.Logic.{◌≢◌, ◌⊎◌, ⊎_elim}
use mathlib.Core.Bool.{Bool, true, false, cond}
use mathlib.Core.List.{List}
use Prim.Native.Nat.{ℕ, zero, suc, ◌≤◌}
use native.Mathlib.Omega.{arith}
use lib.Dec.{eqb}
use Rattle.integers.specs.Member.{member}
use Rattle.integers.proofs.Laws.Member.{member_true}
use Rattle.integers.proofs.Laws.Truth.{clash}
use Rattle.training_file.specs.declared.refusal.Refusal.{Refusal}
use Rattle.training_file.specs.declared.refusal.Refusal.TheVariants.{FileLength, Header, NextOver, Record, Labels, ListLength, Multiplier, Balance, WordFeature, Output, Text, Lines, Unlike, Pool, NextMet}
use Rattle.training_file.specs.Refusal.{OneOf, RecordCarried, number_of, record_of, refusal_at}
use Rattle.training_file.specs.Record.{every}
use Rattle.training_file.proofs.Laws.Record.{every_at}

-- no refusal has the number 0, where 0 is none of the numbers
pub number_some : (numbers : List ℕ) (why : Refusal) → member 0 numbers ≡ false → OneOf numbers why → 1 ≤ number_of why
number_some numbers why none-0 one = by (number_of why) one.listed
  where
    by : (number : ℕ) → member number numbers ≡ true → 1 ≤ number
    by zero e = clash e none-0
    by (suc n) e = omega arith

-- a refusal with one of few numbers, all of which are among more
pub one_of_more : (few more : List ℕ) (why : Refusal) → every (λ number. member number more) few ≡ true → OneOf few why → OneOf more why
one_of_more few more why all one =
    let at = member_true (number_of why) few one.listed in
    record {
      listed = ap (λ number. member number more) (sym at.2) ∙ every_at (λ number. member number more) 0 few all at.0 at.1;
      carried = one.carried;
    }

-- refusals whose numbers are neither 3 nor 16 carry no record
record_none : (why : Refusal) → number_of why ≢ 3 → number_of why ≢ 16 → record_of why ≡ 0
record_none FileLength not-3 not_16 = refl
record_none Header not-3 not_16 = refl
record_none (NextOver r) not-3 not_16 = absurd (not-3 refl)
record_none Record not-3 not_16 = refl
record_none Labels not-3 not_16 = refl
record_none ListLength not-3 not_16 = refl
record_none Multiplier not-3 not_16 = refl
record_none Balance not-3 not_16 = refl
record_none WordFeature not-3 not_16 = refl
record_none Output not-3 not_16 = refl
record_none Text not-3 not_16 = refl
record_none Lines not-3 not_16 = refl
record_none Unlike not-3 not_16 = refl
record_none Pool not-3 not_16 = refl
record_none (NextMet r) not-3 not_16 = absurd (not_16 refl)

pub none_carried : (why : Refusal) → number_of why ≢ 3 → number_of why ≢ 16 → RecordCarried why
none_carried why not-3 not_16 =
    record { at_fault = ⊎_elim (λ e. absurd (not-3 e)) (λ e. absurd (not_16 e)); otherwise = λ a b. record_none why not-3 not_16 }

pub one_of_alone : (numbers : List ℕ) (why : Refusal) → member (number_of why) numbers ≡ true → number_of why ≢ 3 → number_of why ≢ 16 → OneOf numbers why
one_of_alone numbers why e not-3 not_16 = record { listed = e; carried = none_carried why not-3 not_16 }

-- the refusal of a chain that breaks has the number and carries the record
pub at_number : (number r : ℕ) → (number ≡ 3) ⊎ (number ≡ 16) → number_of (refusal_at number r) ≡ number
at_number number r = ⊎_elim (λ e. rw e) (λ e. rw e)

pub at_record : (number r : ℕ) → record_of (refusal_at number r) ≡ r
at_record number r = by (eqb number 3)
  where
    by : (t : Bool) → record_of (cond t (NextOver r) (NextMet r)) ≡ r
    by true = refl
    by false = refl
