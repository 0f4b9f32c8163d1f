-- Laws of values: the range by the magnitude, and the value at a place by what is told of its digits. Assumes nothing.
use mathlib.Core.Path.{◌≡◌, refl, sym, ◌∙◌, ap, subst}
use mathlib.Core.Bool.{Bool, true, false, ◌&&◌, and-true, cond, not}
use mathlib.Core.List.{List, [], ◌∷◌}
use Prim.Native.Nat.{ℕ, zero, suc, ◌+◌, ◌≤◌}
use native.Mathlib.Decide.{dec_le}
use native.Mathlib.Nat.{add-zero}
use native.Mathlib.Omega.{arith}
use borrow.Author.Tests.{le-leb, lt-leb, ne_eqb}
use lib.Dec.{eqb, leb}
use lib.IntN.{ℤ, pos}
use lib.ListN.{drop, get_or, length}
use lib.Seq.{drop-drop, get_or-drop}
use Rattle.std.specs.Prelude.{None, Option, Some, option_map}
use Rattle.integers.proofs.Laws.Truth.{&&_true}
use Rattle.training_file.specs.Item.{feature_allowed, feature_most}
use Rattle.text.specs.Decimal.{value}
use Rattle.libsvm_text.specs.declared.place.Found.{Found}
use Rattle.libsvm_text.specs.Form.{Value, digit, number, numeral, value_formed, value_text}
use Rattle.libsvm_text.specs.Items.{signed_number}
use Rattle.libsvm_text.specs.Read.{DigitsFound, ReadsValue, ValueFound, feature_of, leading, leading_value, leads, limited}
use Rattle.libsvm_text.proofs.Laws.Numeral.{leading_one, leading_stops, leading_two, nought_only, number_led, numeral_led}

-- ---- the range

one_less : (less most : ℕ) → leb less most ≡ leb (suc less) (suc most)
one_less less most = by (dec_le less most)
  where
    by : Dec (less ≤ most) → leb less most ≡ leb (suc less) (suc most)
    by (yes h) = le-leb less most h ∙ sym (le-leb (suc less) (suc most) (omega arith))
    by (no h) = lt-leb less most (omega arith) ∙ sym (lt-leb (suc less) (suc most) (omega arith))

pub signed_allowed : (minus : Bool) (magnitude : ℕ) → feature_allowed (signed_number minus magnitude) ≡ leb magnitude feature_most
signed_allowed false magnitude = refl
signed_allowed true zero = refl
signed_allowed true (suc less) = and-true (leb less 126) ∙ one_less less 126

-- what is told of digits serves for their value
module _ (minus : Bool) (digits : List ℕ) where
  pub told_feature : option_map (signed_number minus) (limited (number digits)) ≡ feature_of (record { minus = minus; digits = digits })
  told_feature =
      by (leb (number digits) feature_most)
      ∙ sym (ap (λ t. cond t (Some (signed_number minus (number digits))) None) (signed_allowed minus (number digits)))
    where
      by : (t : Bool) → option_map (signed_number minus) (cond t (Some (number digits)) None) ≡ cond t (Some (signed_number minus (number digits))) None
      by true = refl
      by false = refl

-- ---- the value after its sign

module _ (text : List ℕ) (start : ℕ) (minus : Bool) where
  abbrev after_sign_lem : Value
  after_sign_lem = record { minus = minus; digits = leading (drop start text) }

  -- a leading digit makes it one
  module _ (h : leads (get_or text start 0) ≡ true) where
    value_led : value_formed after_sign_lem ≡ true
    value_led =
        &&_true (numeral_led text start h)
        (ap (λ t. not (minus && t)) (ne_eqb (number (leading (drop start text))) 0 (λ e. omega (arith, number_led text start h))) ∙ by minus)
      where
        by : (t : Bool) → not (t && false) ≡ true
        by true = refl
        by false = refl

  pub reads_led : {digits : Found (Option ℕ)} {feature : Option ℤ} → DigitsFound text start digits → feature ≡ option_map (signed_number minus) digits.what
      → ValueFound after_sign_lem (start + length (leading (drop start text))) (record { what = feature; end = digits.end })
  reads_led read same =
      record {
        formed = value_led read.leads_is;
        feature_is = same ∙ ap (option_map (signed_number minus)) read.number_is ∙ told_feature minus (leading (drop start text));
        end_is = read.end_is;
      }

  -- where none leads it is 0, alone and without a sign, or none
  pub reads_none : leads (get_or text start 0) ≡ false → (minus ≡ false → get_or text start 0 ≡ 48 → digit (get_or text (start + 1) 0) ≡ false → ⊥)
      → value_formed after_sign_lem ≡ false
  unfolding numeral value
  reads_none h never = by (digit (get_or text start 0)) refl
    where
      signed : (t : Bool) → (t ≡ false → ⊥) → value_formed (record { minus = t; digits = 48 ∷ [] }) ≡ false
      signed true none = refl
      signed false none = absurd (none refl)

      by : (t : Bool) → digit (get_or text start 0) ≡ t → value_formed after_sign_lem ≡ false
      by false none = ap (λ l. value_formed (record { minus = minus; digits = l })) (leading_stops text start none)
      by true is = next (digit (get_or text (start + 1) 0)) refl
        where
          nought : get_or text start 0 ≡ 48
          nought = nought_only (get_or text start 0) h is

          next : (t : Bool) → digit (get_or text (start + 1) 0) ≡ t → value_formed after_sign_lem ≡ false
          next true more =
              ap (λ l. value_formed (record { minus = minus; digits = l }))
              (leading_two text start is more ∙ ap (λ b. b ∷ get_or text (start + 1) 0 ∷ leading (drop (start + 2) text)) nought)
          next false stop =
              ap (λ l. value_formed (record { minus = minus; digits = l })) (leading_one text start is stop ∙ ap (λ b. b ∷ []) nought)
              ∙ signed minus (λ plus. never plus nought stop)

-- a 0 that no sign is before
pub reads_nought : (text : List ℕ) (start : ℕ) {minus : Bool} → minus ≡ false → get_or text start 0 ≡ 48 → digit (get_or text (start + 1) 0) ≡ false
    → ValueFound (record { minus = minus; digits = leading (drop start text) }) (start + length (leading (drop start text)))
    (record { what = Some (pos 0); end = start + 1 })
unfolding numeral value
reads_nought text start {minus} plus nought stop =
    subst (λ m. Found m (leading (drop start text))) (sym plus)
    (subst (Found false) (sym (leading_one text start (ap digit nought) stop ∙ ap (λ b. b ∷ []) nought)) alone)
  where
    Found : Bool → List ℕ → Type 0
    Found m l = ValueFound (record { minus = m; digits = l }) (start + length l) (record { what = Some (pos 0); end = start + 1 })

    alone : Found false (48 ∷ [])
    alone = record { formed = refl; feature_is = refl; end_is = refl }

-- ---- the value with its sign

-- the place of its digits
abbrev pub digits_place : (minus : Bool) → ℕ → ℕ
digits_place minus start = cond minus (start + 1) start

module _ (text : List ℕ) (start : ℕ) (minus : Bool) (sign : eqb (get_or text start 0) 45 ≡ minus) where
  abbrev digits : List ℕ
  digits = leading (drop (digits_place minus start) text)

  sign_there : eqb (get_or (drop start text) 0 0) 45 ≡ minus
  sign_there = ap (λ b. eqb b 45) (get_or-drop start text 0 0 ∙ ap (λ n. get_or text n 0) (add-zero start)) ∙ sign

  leading_value_lem : leading_value (drop start text) ≡ record { minus = minus; digits = digits }
  leading_value_lem =
      ap (λ t. record { minus = t; digits = leading (drop (cond t 1 0) (drop start text)) }) sign_there
      ∙ ap (λ l. record { minus = minus; digits = leading l }) (drop-drop (cond minus 1 0) start text ∙ ap (λ n. drop n text) (place minus))
    where
      place : (t : Bool) → start + cond t 1 0 ≡ digits_place t start
      place true = refl
      place false = add-zero start

  pub reads_signed : (read : Option (Found (Option ℤ))) {place : ℕ} → place ≡ digits_place minus start
      → ReadsValue (record { minus = minus; digits = leading (drop place text) }) (place + length (leading (drop place text))) read
      → ReadsValue (leading_value (drop start text)) (start + length (value_text (leading_value (drop start text)))) read
  reads_signed read is there =
      subst (λ (value : Value). ReadsValue value (start + length (value_text value)) read) (sym leading_value_lem)
      (subst (λ end. ReadsValue (record { minus = minus; digits = digits }) end read) (end minus digits)
      (subst (λ n. ReadsValue (record { minus = minus; digits = leading (drop n text) }) (n + length (leading (drop n text))) read) is there))
    where
      end : (t : Bool) (l : List ℕ) → digits_place t start + length l ≡ start + length (value_text (record { minus = t; digits = l }))
      end true l = omega arith
      end false l = refl
