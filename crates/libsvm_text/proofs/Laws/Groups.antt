-- Laws of the lines of a text, found byte by byte: what a label, a group and a line's end lead to. Assumes nothing.
use mathlib.Core.Path.{◌≡◌, refl, sym, ◌∙◌, ap, subst}
use mathlib.Core.Bool.{Bool, true, false, ◌&&◌, ◌||◌, cond, and-false, false≢true}
use mathlib.Core.List.{List, [], ◌∷◌, ◌++◌}
use mathlib.Core.Option.{Option, none}
use Prim.Native.Nat.{ℕ, zero, suc, ◌+◌, ◌≤◌}
use native.Mathlib.Nat.{add-zero}
use native.Mathlib.Omega.{arith}
use lib.Dec.{eqb}
use lib.ListN.{drop, get_or, length}
use lib.Seq.{drop-drop, get_or-drop}
use borrow.Author.Tests.{eqb-true}
use Rattle.integers.proofs.Laws.Truth.{&&_left, clash}
use Rattle.training_file.specs.declared.item.Label.{Label}
use Rattle.training_file.specs.declared.item.Label.TheVariants.{LookedUp, PassedOver}
use Rattle.libsvm_text.specs.Form.{Line, Value, digit, value_formed, value_text}
use Rattle.libsvm_text.specs.Lines.{State, after_label, after_sign, at_start, in_number, wrong}
use Rattle.libsvm_text.specs.Lines.{ended, is_empty, last_of, lines_from, number_fits, step, with_group}
use Rattle.libsvm_text.specs.Places.{Within}
use Rattle.libsvm_text.specs.Read.{group_leads, group_length, leading, leading_group, leading_value, minus_at}
use Rattle.libsvm_text.proofs.Laws.Numeral.{goes_on_lem, leading_digits, leading_ends, leading_from, leading_splits, leading_stops}
use Rattle.libsvm_text.proofs.Laws.Steps.{decided, number_digits, partly, value_digits, value_ends, wrong_stays}

-- a line of which the label is read
abbrev pub labelled : List Line → Label → State
labelled before label = after_label before (record { label = label; groups = [] })

-- one test after the other
both_tests : (s t : Bool) (x : Option (List Line)) → cond s (cond t x none) none ≡ cond (s && t) x none
both_tests true t x = refl
both_tests false t x = refl

-- the byte after the digits that a text starts with is none
after_digits : (text : List ℕ) → digit (get_or (drop (length (leading text)) text) 0 0) ≡ false
after_digits text = rw (get_or-drop (length (leading text)) text 0 0, add-zero) (leading_ends text)

module _ (d : ℕ) where
  module _ (before : List Line) (line : Line) where
    -- the digits that a text starts with
    number_runs : (digits text : List ℕ)
        → lines_from d (in_number before line digits) text ≡ lines_from d (in_number before line (digits ++ leading text)) (drop (length (leading text)) text)
    number_runs digits text =
        ap (lines_from d (in_number before line digits)) (leading_splits text)
        ∙ number_digits d before line digits (leading text) (drop (length (leading text)) text) (leading_digits text)

    value_runs : (feature : List ℕ) (minus : Bool) (digits text : List ℕ)
        → lines_from d (partly d before line feature minus digits) text
        ≡ lines_from d (partly d before line feature minus (digits ++ leading text)) (drop (length (leading text)) text)
    value_runs feature minus digits text =
        ap (lines_from d (partly d before line feature minus digits)) (leading_splits text)
        ∙ value_digits d before line feature minus digits (leading text) (drop (length (leading text)) text) (leading_digits text)

    -- a byte that is no digit ends a number, and the text's end does
    number_ends : (digits text : List ℕ) → digit (get_or text 0 0) ≡ false
        → lines_from d (in_number before line digits) text
        ≡ cond (eqb (get_or text 0 0) 58 && number_fits d line digits) (lines_from d (partly d before line digits false []) (drop 1 text)) none
    unfolding lines_from step
    number_ends digits [] h = refl
    number_ends digits (byte ∷ text) h =
        ap (λ t. lines_from d (cond t (in_number before line (digits ++ (byte ∷ []))) (cond colon (partly d before line digits false []) wrong)) text) h
        ∙ decided d colon (partly d before line digits false []) text
      where
        colon : Bool
        colon = eqb byte 58 && number_fits d line digits

    -- ---- a value from its first byte on

    abbrev ValueRead : (feature text : List ℕ) → Value → Type 0
    ValueRead feature text value =
        lines_from d (partly d before line feature false []) text
        ≡ cond (value_formed value)
        (lines_from d (after_label before (with_group line (record { feature = feature; value = value }))) (drop (length (value_text value)) text))
        none

    value_minus : (feature text : List ℕ) → ValueRead feature (45 ∷ text) (record { minus = true; digits = leading text })
    unfolding lines_from step
    value_minus feature text =
        value_runs feature true [] text
        ∙ value_ends d before line (record { feature = feature; value = record { minus = true; digits = leading text } }) (drop (length (leading text)) text)
        (after_digits text) (and-false (eqb (get_or (drop (length (leading text)) text) 0 0) 45))

    value_plain : (feature text : List ℕ) → minus_at text ≡ false → ValueRead feature text (record { minus = false; digits = leading text })
    value_plain feature text h =
        value_runs feature false [] text
        ∙ value_ends d before line (record { feature = feature; value = record { minus = false; digits = leading text } }) (drop (length (leading text)) text)
        (after_digits text) (no_minus (leading text))
      where
        no_minus : (l : List ℕ) → eqb (get_or (drop (length l) text) 0 0) 45 && is_empty l ≡ false
        no_minus [] = ap (λ t. t && true) h
        no_minus (byte ∷ more) = and-false (eqb (get_or (drop (suc (length more)) text) 0 0) 45)

    value_read : (feature text : List ℕ) → ValueRead feature text (leading_value text)
    value_read feature [] = value_plain feature [] refl
    value_read feature (byte ∷ text) = by (eqb byte 45) refl
      where
        by : (t : Bool) → eqb byte 45 ≡ t → ValueRead feature (byte ∷ text) (leading_value (byte ∷ text))
        by true h = rw (eqb-true byte 45 h) (value_minus feature text)
        by false h = rw h (value_plain feature (byte ∷ text) h)

    -- ---- a group from the place after its space on

    pub group_read : (text : List ℕ)
        → lines_from d (in_number before line []) text
        ≡ cond (group_leads d (last_of 0 line.groups) text)
        (lines_from d (after_label before (with_group line (leading_group text))) (drop (group_length text) text))
        none
    group_read text =
        let k = length (leading text) in
        let value = leading_value (drop (k + 1) text) in
        let left : List ℕ → Option (List Line) = lines_from d (after_label before (with_group line (leading_group text))) in
        number_runs [] text
        ∙ number_ends (leading text) (drop k text) (after_digits text)
        ∙ (λ i. cond (eqb (at_end text i) 58 && number_fits d line (leading text)) (lines_from d (partly d before line (leading text) false []) (drop-drop 1 k text i)) none)
        ∙ ap (λ x. cond (eqb (get_or text k 0) 58 && number_fits d line (leading text)) x none)
        (value_read (leading text) (drop (k + 1) text) ∙ ap (λ rest. cond (value_formed value) (left rest) none) (drop-drop (length (value_text value)) (k + 1) text))
        ∙ both_tests (eqb (get_or text k 0) 58 && number_fits d line (leading text)) (value_formed value) (left (drop (group_length text) text))
      where
        at_end : (text : List ℕ) → get_or (drop (length (leading text)) text) 0 0 ≡ get_or text (length (leading text)) 0
        at_end text = rw (get_or-drop (length (leading text)) text 0 0, add-zero)

  -- ---- what follows a label or a group

  module _ (before : List Line) (line : Line) where
    pub space_read : (text : List ℕ) → eqb (get_or text 0 0) 32 ≡ true
        → lines_from d (after_label before line) text ≡ lines_from d (in_number before line []) (drop 1 text)
    unfolding lines_from step
    space_read [] h = absurd (false≢true h)
    space_read (byte ∷ text) h = rw h

    pub end_read : (text : List ℕ) → eqb (get_or text 0 0) 32 ≡ false
        → lines_from d (after_label before line) text ≡ cond (eqb (get_or text 0 0) 10) (lines_from d (at_start (before ++ (line ∷ []))) (drop 1 text)) none
    unfolding lines_from step
    end_read [] h = refl
    end_read (byte ∷ text) h =
        ap (λ t. lines_from d (cond t (in_number before line []) (cond (eqb byte 10) (at_start (before ++ (line ∷ []))) wrong)) text) h
        ∙ decided d (eqb byte 10) (at_start (before ++ (line ∷ []))) text

  -- ---- a label, where the text has a byte

  pub label_read : (before : List Line) (text : List ℕ) → 1 ≤ length text
      → lines_from d (at_start before) text
      ≡ cond ((eqb (get_or text 0 0) 43 || eqb (get_or text 0 0) 45) && eqb (get_or text 1 0) 49)
      (lines_from d (labelled before (cond (eqb (get_or text 0 0) 43) LookedUp PassedOver)) (drop 2 text))
      none
  unfolding lines_from step
  label_read before [] h = absurd (omega arith)
  label_read before (sign ∷ []) h = by (eqb sign 43) (eqb sign 45)
    where
      by : (plus minus : Bool)
          → ended (cond plus (after_sign before LookedUp) (cond minus (after_sign before PassedOver) wrong))
          ≡ cond ((plus || minus) && false) (lines_from d (labelled before (cond plus LookedUp PassedOver)) []) none
      by true minus = refl
      by false true = refl
      by false false = refl
  label_read before (sign ∷ one ∷ text) h = by (eqb sign 43) (eqb sign 45)
    where
      by : (plus minus : Bool)
          → lines_from d (step d (cond plus (after_sign before LookedUp) (cond minus (after_sign before PassedOver) wrong)) one) text
          ≡ cond ((plus || minus) && eqb one 49) (lines_from d (labelled before (cond plus LookedUp PassedOver)) text) none
      by true minus = decided d (eqb one 49) (labelled before LookedUp) text
      by false true = decided d (eqb one 49) (labelled before PassedOver) text
      by false false = wrong_stays d text

-- ---- a group ends within a text that ends with a newline

pub digits_within : (text : List ℕ) (at k : ℕ) → Within text at → k ≡ length (leading (drop at text)) → Within text (at + k)
digits_within text at zero here e = subst (Within text) (sym (add-zero at)) here
digits_within text at (suc k) here e =
    let one = by (digit (get_or text at 0)) refl in
    let next = goes_on_lem text at here (λ e. clash one (ap digit e)) in
    subst (Within text) (omega arith) (digits_within text (at + 1) k next (omega (arith, e ∙ ap length (leading_from text at one))))
  where
    by : (t : Bool) → digit (get_or text at 0) ≡ t → digit (get_or text at 0) ≡ true
    by true h = h
    by false h = absurd (omega (arith, e ∙ ap length (leading_stops text at h)))

value_within : (text : List ℕ) (at : ℕ) → Within text at → Within text (at + length (value_text (leading_value (drop at text))))
value_within text at here = by (minus_at (drop at text)) refl
  where
    long : Bool → ℕ
    long t = length (value_text (record { minus = t; digits = leading (drop (cond t 1 0) (drop at text)) }))

    by : (t : Bool) → minus_at (drop at text) ≡ t → Within text (at + long (minus_at (drop at text)))
    by true h =
        let minus = sym (get_or-drop at text 0 0 ∙ ap (λ k. get_or text k 0) (add-zero at)) ∙ eqb-true (get_or (drop at text) 0 0) 45 h in
        let next = goes_on_lem text at here (λ e. omega (arith, sym e ∙ minus)) in
        let rest = digits_within text (at + 1) (length (leading (drop (at + 1) text))) next refl in
        let same : long (minus_at (drop at text)) ≡ suc (length (leading (drop (at + 1) text))) =
        ap long h ∙ ap (λ (l : List ℕ). suc (length (leading l))) (drop-drop 1 at text) in
        subst (Within text) (omega (arith, same)) rest
    by false h = subst (λ t. Within text (at + long t)) (sym h) (digits_within text at (length (leading (drop at text))) here refl)

pub group_within : (d last : ℕ) (text : List ℕ) (at : ℕ) → Within text at → group_leads d last (drop at text) ≡ true
    → Within text (at + group_length (drop at text))
group_within d last text at here h =
    let k = length (leading (drop at text)) in
    let colon = sym (get_or-drop at text k 0) ∙ eqb-true (get_or (drop at text) k 0) 58 (&&_left _ _ (&&_left _ _ h)) in
    let next = goes_on_lem text (at + k) (digits_within text at k here refl) (λ e. omega (arith, sym e ∙ colon)) in
    let value = value_within text (at + (k + 1)) (subst (Within text) (omega arith) next) in
    let same = ap (λ (l : List ℕ). length (value_text (leading_value l))) (drop-drop (k + 1) at text) in
    subst (Within text) (omega (arith, same)) value
