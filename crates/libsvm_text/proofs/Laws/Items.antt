-- What lines say is judged as items are, and the line made from an item is formed, allowed, and says that item. Assumes nothing.
use mathlib.Core.Path.{◌≡◌, refl, sym, ◌∙◌, ap}
use mathlib.Core.Logic.{◌⊎◌, inl, inr}
use mathlib.Core.Bool.{Bool, true, not, ◌&&◌}
use mathlib.Core.List.{List, [], ◌∷◌, ◌++◌}
use Prim.Native.Nat.{ℕ, zero, suc, ◌+◌, ◌-◌, ◌/◌, ◌%◌, ◌^◌, ◌≤◌, ◌<◌}
use native.Mathlib.Decide.{dec_le, dec_lt}
use native.Mathlib.Nat.{le_of_suc-le-suc, eq-or-lt_of_le}
use native.Mathlib.Omega.{arith}
use lib.Dec.{eqb, leb, ltb}
use lib.IntN.{ℤ, pos, negsuc, neg_ℤ, nat_abs}
use lib.ListN.{length, get_or}
use lib.Seq.{ext_get_or}
use borrow.Author.Tests.{le-leb, leb-true, lt-ltb, ne_eqb}
use Rattle.integers.specs.Tabulate.{tabulate}
use Rattle.integers.specs.Zero.{is_zero}
use Rattle.integers.proofs.Laws.Places.{all_true}
use Rattle.integers.proofs.Laws.Truth.{&&_both, &&_left, &&_right, &&_true, chose_either}
use Rattle.training_file.specs.declared.item.Item.{Item}
use Rattle.training_file.specs.Layout.{feature_count}
use Rattle.training_file.specs.Item.{feature_allowed, feature_most, features_allowed}
use Rattle.training_file.specs.Record.{every}
use Rattle.training_file.proofs.Laws.Item.{features_most, features_past}
use Rattle.text.specs.Decimal.{decimal, digits}
use Rattle.text.proofs.Laws.Decimal.{decimal_one, digits_more, digits_one}
use Rattle.text.proofs.Laws.Decimal.Meaning.{decimal_value, no_leading_zero}
use Rattle.libsvm_text.specs.Form.{Group, Line, digit, group_formed, line_formed, number, numeral, rising, value_formed}
use Rattle.libsvm_text.specs.Items.{feature_group, feature_in, group_allowed, item_line, line_allowed, line_features, line_item, value_from, value_of}
use Rattle.libsvm_text.specs.Lines.{last_of}
use Rattle.libsvm_text.proofs.Laws.Features.{feature_at, feature_last, feature_other, features_sixteen}
use Rattle.libsvm_text.proofs.Laws.Form.{every_append, last-append, rising-append}

-- ---- decimal digits

digit_byte : (n : ℕ) → n < 10 → digit (48 + n) ≡ true
digit_byte n h = &&_true (le-leb 48 (48 + n) (omega arith)) (le-leb (48 + n) 57 (omega arith))

digits_digits : (places n : ℕ) → every digit (digits places n) ≡ true
unfolding digits every
digits_digits zero n = refl
digits_digits (suc places) n = by (dec_le 10 n) (digits_digits places (n / 10))
  where
    by : Dec (10 ≤ n) → every digit (digits places (n / 10)) ≡ true → every digit (digits (suc places) n) ≡ true
    by (no l) before = ap (every digit) (digits_one places n (omega arith)) ∙ &&_true (digit_byte n (omega arith)) refl
    by (yes l) before =
        ap (every digit) (digits_more places n l) ∙ every_append digit (digits places (n / 10)) (48 + n % 10)
        ∙ &&_true before (digit_byte (n % 10) (omega arith))

-- digits of which the first is not `0`
first_nonzero : (list : List ℕ) → every digit list ≡ true → 48 < get_or list 0 0 → numeral list ≡ true
unfolding numeral every
first_nonzero [] h above = absurd (omega arith)
first_nonzero (first ∷ []) h above = &&_left (digit first) true h
first_nonzero (first ∷ second ∷ more) h above = &&_true (ap not (ne_eqb first 48 (λ e. omega arith))) h

pub decimal_numeral : (number : ℕ) → number < 2 ^ 64 → numeral (decimal number) ≡ true
unfolding numeral decimal
decimal_numeral number h = by (dec_lt number 10)
  where
    by : Dec (number < 10) → numeral (decimal number) ≡ true
    by (yes l) = ap numeral (decimal_one number l) ∙ digit_byte number l
    by (no l) = first_nonzero (decimal number) (digits_digits 20 number) (no_leading_zero number h (omega arith))

-- ---- what a formed and allowed line says

-- no group has a number past d
feature_past : (d before : ℕ) (groups : List Group) (wanted : ℕ) → rising d before groups ≡ true → d < wanted → feature_in groups wanted ≡ pos 0
unfolding feature_in rising
feature_past d before [] wanted rise past = refl
feature_past d before (group ∷ more) wanted rise past =
    let n = number group.feature in
    let both = &&_both (ltb before n && leb n d) (rising d n more) rise in
    let most = leb-true n d (&&_right (ltb before n) (leb n d) both.0) in
    rw (ne_eqb n wanted (λ e. omega arith)) (feature_past d n more wanted both.1 past)

feature_judged : (groups : List Group) (wanted : ℕ) → every group_allowed groups ≡ true → feature_allowed (feature_in groups wanted) ≡ true
unfolding feature_in every
feature_judged [] wanted h = refl
feature_judged (group ∷ more) wanted h =
    let both = &&_both (group_allowed group) (every group_allowed more) h in
    chose_either (λ (z : ℤ). feature_allowed z ≡ true) (eqb (number group.feature) wanted) both.0 (feature_judged more wanted both.1)

pub features-length : (groups : List Group) → length (line_features groups) ≡ feature_count
features-length = features_sixteen

pub features_judged : (d : ℕ) (line : Line) → line_formed d line ≡ true → line_allowed line ≡ true → features_allowed d (line_features line.groups) ≡ true
unfolding features_allowed line_formed
features_judged d line formed allowed =
    let groups = line.groups in
    let features = line_features groups in
    let rise = &&_right (every group_formed groups) (rising d 0 groups) formed in
    &&_true
    (all_true (λ i. feature_allowed (get_or features i (pos 0))) feature_count
    (λ i l. ap feature_allowed (feature_at groups i l) ∙ feature_judged groups (suc i) allowed))
    (all_true (λ i. is_zero (get_or features (d + i) (pos 0))) (feature_count - d)
    (λ i l. ap is_zero (feature_at groups (d + i) (omega arith) ∙ feature_past d 0 groups (suc (d + i)) rise (omega arith))))

-- ---- a feature as a group

value_back : (z : ℤ) → nat_abs z ≤ feature_most → value_of (value_from z) ≡ z
value_back (pos n) most = ap pos (decimal_value n (omega arith))
value_back (negsuc n) most = ap (λ (m : ℕ). neg_ℤ (pos m)) (decimal_value (suc n) (omega arith))

value_formed_lem : (z : ℤ) → nat_abs z ≤ feature_most → value_formed (value_from z) ≡ true
value_formed_lem (pos n) most = &&_true (decimal_numeral n (omega arith)) refl
value_formed_lem (negsuc n) most =
    &&_true (decimal_numeral (suc n) (omega arith)) (ap not (ne_eqb (number (decimal (suc n))) 0 (λ e. omega (arith, decimal_value (suc n) (omega arith)))))

-- a bound of the magnitude as the range
most_allowed : (z : ℤ) → nat_abs z ≤ feature_most → feature_allowed z ≡ true
most_allowed (pos n) most = &&_true refl (le-leb n feature_most most)
most_allowed (negsuc n) most = &&_true (le-leb n (feature_most - 1) (omega arith)) refl

-- ---- the line of an item

every-tabulate : {A : Type 0} (test : A → Bool) (f : ℕ → A) (n : ℕ) → ((i : ℕ) → i < n → test (f i) ≡ true) → every test (tabulate n f) ≡ true
unfolding every tabulate
every-tabulate test f zero h = refl
every-tabulate test f (suc n) h = every_append test (tabulate n f) (f n) ∙ &&_true (every-tabulate test f n (λ i l. h i (omega arith))) (h n (omega arith))

module _ (features : List ℤ) where
  abbrev group_at : ℕ → Group
  group_at i = feature_group i (get_or features i (pos 0))

  group_number : (i : ℕ) → i < feature_count → number (group_at i).feature ≡ suc i
  group_number i l = decimal_value (suc i) (omega arith)

  last_number : (k : ℕ) → k ≤ feature_count → last_of 0 (tabulate k group_at) ≡ k
  unfolding last_of tabulate
  last_number zero few = refl
  last_number (suc k) few = last-append 0 (tabulate k group_at) (group_at k) ∙ group_number k (omega arith)

  above_last : (k : ℕ) → k < feature_count → last_of 0 (tabulate k group_at) < number (group_at k).feature
  above_last k few = omega (arith, last_number k (omega arith), group_number k few)

  numbers_rise : (d k : ℕ) → k ≤ d → k ≤ feature_count → rising d 0 (tabulate k group_at) ≡ true
  unfolding rising tabulate
  numbers_rise d zero l few = refl
  numbers_rise d (suc k) l few =
      rising-append d 0 (tabulate k group_at) (group_at k)
      ∙ &&_true (numbers_rise d k (omega arith) (omega arith))
      (&&_true (lt-ltb (last_of 0 (tabulate k group_at)) (number (group_at k).feature) (above_last k (omega arith)))
      (le-leb (number (group_at k).feature) d (omega (arith, group_number k (omega arith)))))

  module _ (most : (i : ℕ) → nat_abs (get_or features i (pos 0)) ≤ feature_most) where
    group_formed_lem : (i : ℕ) → i < feature_count → group_formed (group_at i) ≡ true
    group_formed_lem i l = &&_true (decimal_numeral (suc i) (omega arith)) (value_formed_lem (get_or features i (pos 0)) (most i))

    group_allowed_lem : (i : ℕ) → group_allowed (group_at i) ≡ true
    group_allowed_lem i = ap feature_allowed (value_back (get_or features i (pos 0)) (most i)) ∙ most_allowed (get_or features i (pos 0)) (most i)

    feature_said : (k i : ℕ) → i < k → k ≤ feature_count → feature_in (tabulate k group_at) (suc i) ≡ get_or features i (pos 0)
    unfolding tabulate
    feature_said zero i l few = absurd (omega arith)
    feature_said (suc k) i l few = by (λ below. feature_said k i below (omega arith)) (eq-or-lt_of_le (le_of_suc-le-suc l))
      where
        numbered : number (group_at k).feature ≡ suc k
        numbered = group_number k (omega arith)

        by : (i < k → feature_in (tabulate k group_at) (suc i) ≡ get_or features i (pos 0)) → (i ≡ k) ⊎ (i < k)
            → feature_in (tabulate k group_at ++ (group_at k ∷ [])) (suc i) ≡ get_or features i (pos 0)
        by before (inl e) =
            let at : suc i ≡ number (group_at k).feature = omega (arith, numbered) in
            ap (feature_in (tabulate k group_at ++ (group_at k ∷ []))) at
            ∙ feature_last k 0 (tabulate k group_at) (group_at k) (numbers_rise k k (omega arith) (omega arith)) (above_last k (omega arith))
            ∙ value_back (get_or features k (pos 0)) (most k)
            ∙ ap (λ (n : ℕ). get_or features n (pos 0)) (sym e)
        by before (inr below) = feature_other (tabulate k group_at) (group_at k) (suc i) (λ e. omega (arith, numbered)) ∙ before below

pub item_formed : (d : ℕ) (item : Item) → d ≤ feature_count → ((i : ℕ) → nat_abs (get_or item.features i (pos 0)) ≤ feature_most)
    → line_formed d (item_line d item) ≡ true
unfolding line_formed
item_formed d item few most =
    &&_true (every-tabulate group_formed (group_at item.features) d (λ i l. group_formed_lem item.features most i (omega arith)))
    (numbers_rise item.features d d (omega arith) few)

pub item_allowed_lem : (d : ℕ) (item : Item) → d ≤ feature_count → ((i : ℕ) → nat_abs (get_or item.features i (pos 0)) ≤ feature_most)
    → line_allowed (item_line d item) ≡ true
item_allowed_lem d item few most = every-tabulate group_allowed (group_at item.features) d (λ i l. group_allowed_lem item.features most i)

pub item_back : (d : ℕ) (item : Item) → d ≤ feature_count → length item.features ≡ feature_count → features_allowed d item.features ≡ true
    → line_item (item_line d item) ≡ item
item_back d item few sixteen allowed =
    λ j. record {
      label = item.label;
      features = ext_get_or (pos 0) (line_features groups) features (features-length groups ∙ sym sixteen)
          (λ i h. let l : i < feature_count = omega (arith, features-length groups) in feature_at groups i l ∙ said i (dec_lt i d)) j;
    }
  where
    features : List ℤ
    features = item.features

    groups : List Group
    groups = (item_line d item).groups

    most : (i : ℕ) → nat_abs (get_or features i (pos 0)) ≤ feature_most
    most = features_most d features allowed sixteen

    said : (i : ℕ) → Dec (i < d) → feature_in groups (suc i) ≡ get_or features i (pos 0)
    said i (yes l) = feature_said features most d i l few
    said i (no l) =
        feature_past d 0 groups (suc i) (numbers_rise features d d (omega arith) few) (omega arith)
        ∙ sym (features_past d features allowed sixteen i (omega arith))
