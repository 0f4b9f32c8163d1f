-- Laws of groups: the feature number and the group at a place, by what is read of them. Assumes nothing.
use mathlib.Core.Path.{◌≡◌, refl, sym, ◌∙◌, ap, subst}
use mathlib.Core.Bool.{Bool, true, false, ◌&&◌, and-true, cond}
use mathlib.Core.List.{List, [], ◌∷◌}
use Prim.Native.Nat.{ℕ, ◌+◌, ◌-◌, ◌*◌, ◌≤◌, ◌<◌}
use native.Mathlib.Omega.{arith}
use borrow.Author.Tests.{eqb-true, leb-true, ltb-true, ne_eqb}
use lib.Dec.{eqb, leb, ltb}
use lib.ListN.{drop, get_or, length}
use lib.Seq.{drop-drop, get_or-drop}
use Rattle.std.specs.Prelude.{ℤ, Option, None, Some}
use Rattle.integers.proofs.Laws.Truth.{&&_false_right, &&_left, &&_right, clash, not_true_false}
use Rattle.text.specs.Decimal.{value}
use Rattle.training_file.specs.Item.{feature_most}
use Rattle.training_file.specs.Layout.{feature_count}
use Rattle.libsvm_text.specs.declared.place.Found.{Found}
use Rattle.libsvm_text.specs.Form.{Value, digit, number, numeral, value_formed, value_text}
use Rattle.libsvm_text.specs.Read.{
  DigitsFound,
  GroupFound,
  NumberFound,
  ValueFound,
  feature_of,
  group_leads,
  leading,
  leading_value,
  leads,
  number_leads,
}
use Rattle.libsvm_text.proofs.Laws.Numeral.{
  digit_most,
  leading_from,
  leading_stops,
  leading_three,
  leads_digit,
  leads_least,
  nought_only,
  numeral_led,
  reads_one,
  reads_two,
  three_least,
}

-- a number that starts with `0` is 0, and above none
nought_never : (last : ℕ) (more : List ℕ) → numeral (48 ∷ more) ≡ true → last < number (48 ∷ more) → ⊥
unfolding numeral value
nought_never last [] is above = omega arith
nought_never last (second ∷ more) is above = clash is refl

-- the code tests the colon last
colon_last : (colon low most : Bool) → (low && most) && colon ≡ colon && (low && most)
colon_last true low most = and-true (low && most)
colon_last false low most = &&_false_right (low && most) refl

module _ (d last : ℕ) (text : List ℕ) (start : ℕ) where
  abbrev rest : List ℕ
  rest = drop start text

  abbrev digits : List ℕ
  digits = leading rest

  colon_there : get_or rest (length digits) 0 ≡ get_or text (start + length digits) 0
  colon_there = get_or-drop start text (length digits) 0

  -- ---- the feature number

  module _ (all : number_leads d last rest ≡ true) where
    fits : numeral digits && ltb last (number digits) && leb (number digits) d ≡ true
    fits = &&_right (eqb (get_or rest (length digits) 0) 58) _ all

    low : numeral digits && ltb last (number digits) ≡ true
    low = &&_left (numeral digits && ltb last (number digits)) _ fits

    is_numeral : numeral digits ≡ true
    is_numeral = &&_left (numeral digits) _ low

    above : last < number digits
    above = ltb-true last (number digits) (&&_right (numeral digits) _ low)

    most : number digits ≤ d
    most = leb-true (number digits) d (&&_right (numeral digits && ltb last (number digits)) _ fits)

    colon : get_or text (start + length digits) 0 ≡ 58
    colon = sym colon_there ∙ eqb-true (get_or rest (length digits) 0) 58 (&&_left (eqb (get_or rest (length digits) 0) 58) _ all)

  -- no digit leads
  pub number_none : leads (get_or text start 0) ≡ false → number_leads d last rest ≡ false
  unfolding numeral
  number_none other = not_true_false (number_leads d last rest) (λ all. by all (digit (get_or text start 0)) refl)
    where
      by : number_leads d last rest ≡ true → (t : Bool) → digit (get_or text start 0) ≡ t → ⊥
      by all false stop = clash (is_numeral all) (ap numeral (leading_stops text start stop))
      by all true is =
          let nought = leading_from text start is ∙ ap (λ b. b ∷ leading (drop (start + 1) text)) (nought_only (get_or text start 0) other is) in
          nought_never last (leading (drop (start + 1) text)) (ap numeral (sym nought) ∙ is_numeral all)
          (subst (λ l. last < number l) nought (above all))

  -- what is told of the digits that lead
  module _ {read : Found (Option ℕ)} (found : DigitsFound text start read) where
    module _ {told : ℕ} (some : read.what ≡ Some told) where
      pub number_told : told ≡ number digits
      number_told = by (leb (number digits) feature_most) (sym some ∙ found.number_is)
        where
          by : (t : Bool) → Some told ≡ cond t (Some (number digits)) None → told ≡ number digits
          by true e = cc
          by false e = absurd cc

      tested : number_leads d last rest ≡ (ltb last told && leb told d) && eqb (get_or text read.end 0) 58
      tested =
          (λ i.
          eqb ((colon_there ∙ sym (ap (λ n. get_or text n 0) found.end_is)) i) 58
          && (numeral_led text start found.leads_is i && ltb last (sym number_told i) && leb (sym number_told i) d))
          ∙ sym (colon_last (eqb (get_or text read.end 0) 58) (ltb last told) (leb told d))

      pub number_found : (ltb last told && leb told d) && eqb (get_or text read.end 0) 58 ≡ true
          → NumberFound d last text start (record { what = told; end = read.end })
      number_found all = record { leads_is = tested ∙ all; number_is = number_told; end_is = found.end_is }

  -- ---- the feature number, by its first two digits at most

  -- the number that they say, and the place after them: where a colon is there, they are all
  pub record ShortRead (read : ℕ × ℕ) : Type 0 where
    pub tested : number_leads d last rest ≡ (ltb last read.0 && leb read.0 d) && eqb (get_or text read.1 0) 58
    pub found : number_leads d last rest ≡ true → NumberFound d last text start (record { what = read.0; end = read.1 })

  short_all : {read : ℕ × ℕ} → DigitsFound text start (record { what = Some read.0; end = read.1 }) → ShortRead read
  short_all all = record { tested = tested all refl; found = λ leads. number_found all refl (sym (tested all refl) ∙ leads) }

  module _ (led : leads (get_or text start 0) ≡ true) {read : ℕ × ℕ} where
    pub short_one : digit (get_or text (start + 1) 0) ≡ false → read ≡ (get_or text start 0 - 48, start + 1) → ShortRead read
    short_one stop is = subst ShortRead (sym is) (short_all (reads_one text start led stop))

    -- where a third digit follows, no colon does, and the number that all of them say is past every feature
    pub short_two : d ≤ feature_count → digit (get_or text (start + 1) 0) ≡ true
        → read ≡ ((get_or text start 0 - 48) * 10 + (get_or text (start + 1) 0 - 48), start + 2) → ShortRead read
    short_two few second is = subst ShortRead (sym is) (by (digit (get_or text (start + 2) 0)) refl)
      where
        by : (t : Bool) → digit (get_or text (start + 2) 0) ≡ t
            → ShortRead ((get_or text start 0 - 48) * 10 + (get_or text (start + 1) 0 - 48), start + 2)
        by false stop = short_all (reads_two text start led second stop)
        by true third =
            let all = leading_three text start (leads_digit (get_or text start 0) led) second third in
            let far = three_least (get_or text start 0) (leading (drop (start + 3) text)) (get_or text (start + 1) 0) (get_or text (start + 2) 0)
            (leads_least (get_or text start 0) led) in
            let none = not_true_false (number_leads d last rest) (λ fits. omega (arith, far, few, subst (λ l. number l ≤ d) all (most fits))) in
            let byte = digit_most (get_or text (start + 2) 0) third in
            let no-colon = ne_eqb (get_or text (start + 2) 0) 58 (λ e. omega (arith, byte)) in
            record { tested = none ∙ sym (&&_false_right _ no-colon); found = λ fits. clash fits none }

  -- ---- the group

  module _ {read : Found ℕ} (number_read : NumberFound d last text start read) where
    abbrev place : ℕ
    place = read.end + 1

    value_there : leading_value (drop place text) ≡ leading_value (drop (length digits + 1) rest)
    value_there =
        let here : start + (length digits + 1) ≡ place = omega (arith, number_read.end_is) in
        ap leading_value (sym (drop-drop (length digits + 1) start text ∙ ap (λ n. drop n text) here))

    formed_there : group_leads d last rest ≡ value_formed (leading_value (drop place text))
    formed_there =
        ap (λ t. t && value_formed (leading_value (drop (length digits + 1) rest))) number_read.leads_is ∙ ap value_formed (sym value_there)

    pub group_valueless : value_formed (leading_value (drop place text)) ≡ false → group_leads d last rest ≡ false
    group_valueless none = formed_there ∙ none

    pub group_found : {there : Found (Option ℤ)} → ValueFound (leading_value (drop place text)) (place + length (value_text (leading_value (drop place text)))) there
        → GroupFound d last text start (record { what = record { number = read.what; feature = there.what }; end = there.end })
    group_found value_read =
        record {
          leads_is = formed_there ∙ value_read.formed;
          number_is = number_read.number_is;
          feature_is = value_read.feature_is ∙ ap feature_of value_there;
          end_is = omega (arith, number_read.end_is, value_read.end_is ∙ ap (λ (v : Value). place + length (value_text v)) value_there);
        }
