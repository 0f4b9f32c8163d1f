-- Laws of the places of a text, of the digits from a place on, and of the number that they say. Assumes nothing.
use mathlib.Core.Path.{◌≡◌, refl, sym, ◌∙◌, ap}
use mathlib.Core.Bool.{Bool, true, false, ◌||◌, cond, not}
use mathlib.Core.List.{List, [], ◌∷◌, ◌++◌}
use Prim.Native.Nat.{ℕ, suc, ◌+◌, ◌-◌, ◌*◌, ◌≤◌, ◌<◌}
use native.Mathlib.Decide.{dec_lt}
use native.Mathlib.Numerals.{add-one}
use native.Mathlib.Omega.{arith}
use borrow.Author.Tests.{eqb-true, leb-true, le-leb, lt-leb, ne_eqb}
use lib.Dec.{eqb, leb}
use lib.ListN.{get_or-eq_default, drop, drop_of_length-le, get_or, length}
use lib.Seq.{drop-cons}
use Rattle.std.specs.Prelude.{None, Option, Some}
use Rattle.std.specs.List.{prefix_len}
use Rattle.integers.proofs.Laws.Truth.{&&_left, &&_right, &&_true, clash}
use Rattle.text.specs.Decimal.{value}
use Rattle.training_file.specs.Item.{feature_most}
use Rattle.training_file.specs.Record.{every}
use Rattle.libsvm_text.specs.Form.{digit, number, numeral}
use Rattle.libsvm_text.specs.declared.place.Found.{Found}
use Rattle.libsvm_text.specs.Places.{Within}
use Rattle.libsvm_text.specs.Read.{DigitsFound, leading, leads, limited}

-- ---- places

-- after a byte that is no newline there is another place
pub goes_on_lem : (text : List ℕ) (at : ℕ) → Within text at → (get_or text at 0 ≡ 10 → ⊥) → Within text (at + 1)
goes_on_lem text at h other = record { ends = h.ends; place = by (dec_lt (at + 1) (length text)) }
  where
    by : Dec (at + 1 < length text) → at + 1 < length text
    by (yes within) = within
    by (no past) =
        let some = ne_eqb (length text) 0 (λ e. omega (arith, h.place)) in
        let last : at ≡ length text - 1 = omega (arith, h.place) in
        absurd (other (eqb-true (get_or text at 0) 10 ((λ i. sym some i || eqb (get_or text (last i) 0) 10) ∙ h.ends)))

-- ---- the digits that a text starts with

module _ (byte : ℕ) (text : List ℕ) where
  pub leading_more : digit byte ≡ true → leading (byte ∷ text) ≡ byte ∷ leading text
  unfolding leading
  leading_more h = ap (λ b. cond b (byte ∷ leading text) []) h

  pub leading_none : digit byte ≡ false → leading (byte ∷ text) ≡ []
  unfolding leading
  leading_none h = ap (λ b. cond b (byte ∷ leading text) []) h

pub leading_digits : (text : List ℕ) → every digit (leading text) ≡ true
unfolding every leading
leading_digits [] = refl
leading_digits (byte ∷ text) = by (digit byte) refl (leading_digits text)
  where
    by : (t : Bool) → digit byte ≡ t → every digit (leading text) ≡ true → every digit (leading (byte ∷ text)) ≡ true
    by true h rest = ap (every digit) (leading_more byte text h) ∙ &&_true h rest
    by false h rest = ap (every digit) (leading_none byte text h)

-- the byte after them is no digit; past the end it is 0, which is none
pub leading_ends : (text : List ℕ) → digit (get_or text (length (leading text)) 0) ≡ false
unfolding leading
leading_ends [] = refl
leading_ends (byte ∷ text) = by (digit byte) refl (leading_ends text)
  where
    by : (t : Bool) → digit byte ≡ t → digit (get_or text (length (leading text)) 0) ≡ false
        → digit (get_or (byte ∷ text) (length (leading (byte ∷ text))) 0) ≡ false
    by true h rest = ap (λ (l : List ℕ). digit (get_or (byte ∷ text) (length l) 0)) (leading_more byte text h) ∙ rest
    by false h rest = ap (λ (l : List ℕ). digit (get_or (byte ∷ text) (length l) 0)) (leading_none byte text h) ∙ h

-- so many as `prefix_len` counts
pub leading_count : (text : List ℕ) → length (leading text) ≡ prefix_len digit text
unfolding leading
leading_count [] = refl
leading_count (byte ∷ text) = by (digit byte) refl (leading_count text)
  where
    by : (t : Bool) → digit byte ≡ t → length (leading text) ≡ prefix_len digit text → length (leading (byte ∷ text)) ≡ prefix_len digit (byte ∷ text)
    by true h rest = omega (arith, ap length (leading_more byte text h), ap (λ t. cond t (1 + prefix_len digit text) 0) h)
    by false h rest = omega (arith, ap length (leading_none byte text h), ap (λ t. cond t (1 + prefix_len digit text) 0) h)

pub leading_splits : (text : List ℕ) → text ≡ leading text ++ drop (length (leading text)) text
unfolding leading
leading_splits [] = refl
leading_splits (byte ∷ text) = by (digit byte) refl (leading_splits text)
  where
    by : (t : Bool) → digit byte ≡ t → text ≡ leading text ++ drop (length (leading text)) text
        → byte ∷ text ≡ leading (byte ∷ text) ++ drop (length (leading (byte ∷ text))) (byte ∷ text)
    by true h rest = ap (◌∷◌ byte) rest ∙ sym (ap (λ (l : List ℕ). l ++ drop (length l) (byte ∷ text)) (leading_more byte text h))
    by false h rest = sym (ap (λ (l : List ℕ). l ++ drop (length l) (byte ∷ text)) (leading_none byte text h))

-- ---- the digits from a place on

-- a byte that is not 0 stands within the text
pub stands_within : (text : List ℕ) (at : ℕ) → (get_or text at 0 ≡ 0 → ⊥) → at < length text
stands_within text at other = by (dec_lt at (length text))
  where
    by : Dec (at < length text) → at < length text
    by (yes within) = within
    by (no past) = absurd (other (get_or-eq_default text 0 {n = at} (omega arith)))

module _ (text : List ℕ) (at : ℕ) where
  pub digit_within : digit (get_or text at 0) ≡ true → at < length text
  digit_within h = stands_within text at (λ e. clash h (ap digit e))

  pub leading_from : digit (get_or text at 0) ≡ true → leading (drop at text) ≡ get_or text at 0 ∷ leading (drop (at + 1) text)
  leading_from h = rw add-one (ap leading (drop-cons text at 0 (digit_within h)) ∙ leading_more (get_or text at 0) (drop (suc at) text) h)

  pub leading_stops : digit (get_or text at 0) ≡ false → leading (drop at text) ≡ []
  unfolding leading
  leading_stops h = by (dec_lt at (length text))
    where
      by : Dec (at < length text) → leading (drop at text) ≡ []
      by (yes within) = ap leading (drop-cons text at 0 within) ∙ leading_none (get_or text at 0) (drop (suc at) text) h
      by (no past) = ap leading (drop_of_length-le text {i = at} (omega arith))

-- the digits at a place, by the bytes there
module _ (text : List ℕ) (at : ℕ) where
  module _ (first : digit (get_or text at 0) ≡ true) where
    pub leading_one : digit (get_or text (at + 1) 0) ≡ false → leading (drop at text) ≡ get_or text at 0 ∷ []
    leading_one stop = leading_from text at first ∙ ap (◌∷◌ (get_or text at 0)) (leading_stops text (at + 1) stop)

    module _ (second : digit (get_or text (at + 1) 0) ≡ true) where
      pub leading_two : leading (drop at text) ≡ get_or text at 0 ∷ get_or text (at + 1) 0 ∷ leading (drop (at + 2) text)
      leading_two =
          let next : at + 1 + 1 ≡ at + 2 = omega arith in
          leading_from text at first
          ∙ ap (◌∷◌ (get_or text at 0))
          (leading_from text (at + 1) second ∙ ap (λ n. get_or text (at + 1) 0 ∷ leading (drop n text)) next)

      pub leading_three : digit (get_or text (at + 2) 0) ≡ true
          → leading (drop at text) ≡ get_or text at 0 ∷ get_or text (at + 1) 0 ∷ get_or text (at + 2) 0 ∷ leading (drop (at + 3) text)
      leading_three third =
          let next : at + 2 + 1 ≡ at + 3 = omega arith in
          leading_two
          ∙ ap (λ l. get_or text at 0 ∷ get_or text (at + 1) 0 ∷ l)
          (leading_from text (at + 2) third ∙ ap (λ n. get_or text (at + 2) 0 ∷ leading (drop n text)) next)

-- ---- the number that digits say

grows : (so_far : ℕ) (digits : List ℕ) → so_far ≤ value so_far digits
unfolding value
grows so_far [] = omega arith
grows so_far (byte ∷ more) = omega (arith, grows (so_far * 10 + (byte - 48)) more)

module _ (first : ℕ) where
  pub number_one : number (first ∷ []) ≡ first - 48
  unfolding value
  number_one = omega arith

  pub number_two : (second : ℕ) → number (first ∷ second ∷ []) ≡ (first - 48) * 10 + (second - 48)
  unfolding value
  number_two second = omega arith

  pub number_three : (second third : ℕ) → number (first ∷ second ∷ third ∷ []) ≡ ((first - 48) * 10 + (second - 48)) * 10 + (third - 48)
  unfolding value
  number_three second third = omega arith

  module _ (more : List ℕ) where
    pub one_least : first - 48 ≤ number (first ∷ more)
    unfolding value
    one_least = omega (arith, grows (0 * 10 + (first - 48)) more)

    pub three_least : (second third : ℕ) → 49 ≤ first → 100 ≤ number (first ∷ second ∷ third ∷ more)
    unfolding value
    three_least second third h =
        omega (arith, grows (((0 * 10 + (first - 48)) * 10 + (second - 48)) * 10 + (third - 48)) more)

    four_least : (second third fourth : ℕ) → 49 ≤ first → 1000 ≤ number (first ∷ second ∷ third ∷ fourth ∷ more)
    unfolding value
    four_least second third fourth h =
        omega (arith, grows ((((0 * 10 + (first - 48)) * 10 + (second - 48)) * 10 + (third - 48)) * 10 + (fourth - 48)) more)

-- ---- a first digit that may lead

module _ (byte : ℕ) (h : leads byte ≡ true) where
  pub leads_least : 49 ≤ byte
  leads_least = leb-true 49 byte (&&_left (leb 49 byte) _ h)

  pub leads_digit : digit byte ≡ true
  leads_digit = &&_true (le-leb 48 byte (omega (arith, leads_least))) (&&_right (leb 49 byte) _ h)

module _ (byte : ℕ) (h : digit byte ≡ true) where
  pub digit_least : 48 ≤ byte
  digit_least = leb-true 48 byte (&&_left (leb 48 byte) _ h)

  pub digit_most : byte ≤ 57
  digit_most = leb-true byte 57 (&&_right (leb 48 byte) _ h)

-- the one digit that may not
pub nought_only : (byte : ℕ) → leads byte ≡ false → digit byte ≡ true → byte ≡ 48
nought_only byte none is = by (dec_lt 48 byte)
  where
    by : Dec (48 < byte) → byte ≡ 48
    by (yes above) = clash (&&_true (le-leb 49 byte above) (&&_right (leb 48 byte) _ is)) none
    by (no most) = omega (arith, digit_least byte is)

-- digits of which the first may lead are a number
numeral_by : (first : ℕ) (more : List ℕ) → (first ≡ 48 → ⊥) → every digit (first ∷ more) ≡ true → numeral (first ∷ more) ≡ true
unfolding every numeral
numeral_by first [] other all = &&_left (digit first) true all
numeral_by first (second ∷ more) other all = &&_true (ap not (ne_eqb first 48 other)) all

module _ (text : List ℕ) (at : ℕ) (h : leads (get_or text at 0) ≡ true) where
  leading_led : leading (drop at text) ≡ get_or text at 0 ∷ leading (drop (at + 1) text)
  leading_led = leading_from text at (leads_digit (get_or text at 0) h)

  pub numeral_led : numeral (leading (drop at text)) ≡ true
  numeral_led =
      ap numeral leading_led
      ∙ numeral_by (get_or text at 0) (leading (drop (at + 1) text)) (λ e. omega (arith, leads_least (get_or text at 0) h))
      (ap (every digit) (sym leading_led) ∙ leading_digits (drop at text))

  -- and not 0
  pub number_led : 1 ≤ number (leading (drop at text))
  number_led = rw leading_led (omega (arith, leads_least (get_or text at 0) h, one_least (get_or text at 0) (leading (drop (at + 1) text))))

-- ---- what is told of a number

module _ (said : ℕ) where
  pub limited_within : said ≤ feature_most → Some said ≡ limited said
  limited_within h = sym (ap (λ t. cond t (Some said) None) (le-leb said feature_most h))

  pub limited_past : feature_most < said → None ≡ limited said
  limited_past h = sym (ap (λ t. cond t (Some said) None) (lt-leb said feature_most h))

-- ---- the digits that are read at a place

module _ (text : List ℕ) (at : ℕ) (h : leads (get_or text at 0) ≡ true) where
  first : digit (get_or text at 0) ≡ true
  first = leads_digit (get_or text at 0) h

  -- all of them, and the number that is told of theirs
  found : {read : Found (Option ℕ)} (all : List ℕ) → leading (drop at text) ≡ all → read.what ≡ limited (number all) → read.end ≡ at + length all
      → DigitsFound text at read
  found all is told end =
      record {
        leads_is = h;
        number_is = told ∙ sym (ap (λ l. limited (number l)) is);
        end_is = end ∙ sym (ap (λ (l : List ℕ). at + length l) is);
      }

  pub reads_one : digit (get_or text (at + 1) 0) ≡ false → DigitsFound text at (record { what = Some (get_or text at 0 - 48); end = at + 1 })
  reads_one stop =
      let said = number_one (get_or text at 0) in
      let most = digit_most (get_or text at 0) first in
      found (get_or text at 0 ∷ []) (leading_one text at first stop) (ap Some (sym said) ∙ limited_within _ (omega (arith, said, most))) refl

  module _ (second : digit (get_or text (at + 1) 0) ≡ true) where
    abbrev two : ℕ
    two = (get_or text at 0 - 48) * 10 + (get_or text (at + 1) 0 - 48)

    pub reads_two : digit (get_or text (at + 2) 0) ≡ false → DigitsFound text at (record { what = Some two; end = at + 2 })
    reads_two stop =
        let all = leading_two text at first second ∙ ap (λ l. get_or text at 0 ∷ get_or text (at + 1) 0 ∷ l) (leading_stops text (at + 2) stop) in
        let said = number_two (get_or text at 0) (get_or text (at + 1) 0) in
        let one_most = digit_most (get_or text at 0) first in
        let two_most = digit_most (get_or text (at + 1) 0) second in
        found (get_or text at 0 ∷ get_or text (at + 1) 0 ∷ []) all (ap Some (sym said) ∙ limited_within _ (omega (arith, said, one_most, two_most))) refl

    module _ (third : digit (get_or text (at + 2) 0) ≡ true) where
      abbrev three : ℕ
      three = two * 10 + (get_or text (at + 2) 0 - 48)

      pub reads_three : {told : Option ℕ} → digit (get_or text (at + 3) 0) ≡ false → told ≡ limited three
          → DigitsFound text at (record { what = told; end = at + 3 })
      reads_three stop is =
          found (get_or text at 0 ∷ get_or text (at + 1) 0 ∷ get_or text (at + 2) 0 ∷ [])
          (leading_three text at first second third
          ∙ ap (λ l. get_or text at 0 ∷ get_or text (at + 1) 0 ∷ get_or text (at + 2) 0 ∷ l) (leading_stops text (at + 3) stop))
          (is ∙ sym (ap limited (number_three (get_or text at 0) (get_or text (at + 1) 0) (get_or text (at + 2) 0)))) refl

      -- a number of more digits is past every limit
      pub reads_more : {more : ℕ} → digit (get_or text (at + 3) 0) ≡ true → more ≡ length (leading (drop (at + 4) text))
          → DigitsFound text at (record { what = None; end = at + 4 + more })
      reads_more {more} fourth is =
          let next : at + 3 + 1 ≡ at + 4 = omega arith in
          let rest = leading (drop (at + 4) text) in
          let far = four_least (get_or text at 0) rest (get_or text (at + 1) 0) (get_or text (at + 2) 0) (get_or text (at + 3) 0)
          (leads_least (get_or text at 0) h) in
          found (get_or text at 0 ∷ get_or text (at + 1) 0 ∷ get_or text (at + 2) 0 ∷ get_or text (at + 3) 0 ∷ rest)
          (leading_three text at first second third
          ∙ ap (λ l. get_or text at 0 ∷ get_or text (at + 1) 0 ∷ get_or text (at + 2) 0 ∷ l)
          (leading_from text (at + 3) fourth ∙ ap (λ n. get_or text (at + 3) 0 ∷ leading (drop n text)) next))
          (limited_past _ (omega (arith, far))) (omega (arith, is))
