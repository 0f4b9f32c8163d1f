-- The lines that are found of a text are those of which it is the text: `lines_exactly`. Assumes nothing.
use mathlib.Core.Path.{◌≡◌, refl, sym, ◌∙◌, ap, subst}
use mathlib.Core.Logic.{◌↔◌, ◌⊎◌, inl, inr}
use mathlib.Core.Bool.{Bool, true, false, ◌&&◌, cond}
use mathlib.Core.List.{List, [], ◌∷◌, ◌++◌, append_assoc, append-nil}
use mathlib.Core.Option.{Option, none, some, some-injective, some-ne-none}
use Prim.Native.Nat.{ℕ}
use lib.Dec.{eqb, leb, ltb}
use borrow.Author.Tests.{eqb-true}
use Rattle.integers.proofs.Laws.Truth.{&&_both, &&_left, &&_right, &&_true, clash}
use Rattle.training_file.specs.declared.item.Label.{Label}
use Rattle.training_file.specs.declared.item.Label.TheVariants.{LookedUp, PassedOver}
use Rattle.training_file.specs.Record.{every}
use Rattle.libsvm_text.specs.Form.{Group, HasForm, Line, Value, digit, group_formed, group_text, groups_text, line_formed, line_text, number, numeral, rising, sign_byte, text_of, value_formed, value_text}
use Rattle.libsvm_text.specs.Lines.{State, after_label, after_sign, at_start, in_number, in_value, is_unread, last_of, lines_from, number_fits, onward, step, text_lines, unread, with_digit, with_group, wrong}
use Rattle.libsvm_text.proofs.Laws.Form.{every_append, groups_text-append, last-append, line_more, numeral_digits, text-append}
use Rattle.libsvm_text.proofs.Laws.Steps.{by_step, chosen, number_digits, partly, value_digits, value_ends, wrong_stays}

-- ---- from the lines to the text: what is printed is found

module _ (d : ℕ) (before : List Line) (line : Line) where
  -- a value from the colon on
  value_text_lem : (feature : List ℕ) (minus : Bool) (digits rest : List ℕ) → every digit digits ≡ true
      → lines_from d (partly d before line feature false []) (value_text (record { minus = minus; digits = digits }) ++ rest) ≡ lines_from d (partly d before line feature minus digits) rest
  unfolding step
  value_text_lem feature true digits rest h = by_step d (partly d before line feature false []) 45 (digits ++ rest) refl ∙ value_digits d before line feature true [] digits rest h
  value_text_lem feature false digits rest h = value_digits d before line feature false [] digits rest h

  -- a group from its space on
  group_text_lem : (group : Group) (rest : List ℕ) → group_formed group ≡ true
      → ltb (last_of 0 line.groups) (number group.feature) && leb (number group.feature) d ≡ true
      → lines_from d (after_label before line) (group_text group ++ rest) ≡ lines_from d (in_value before line group) rest
  unfolding step
  group_text_lem group rest formed fits =
      let both = &&_both (numeral group.feature) (value_formed group.value) formed in
      let each = numeral_digits group.value.digits (&&_left (numeral group.value.digits) _ both.1) in
      let rises = &&_both (ltb (last_of 0 line.groups) (number group.feature)) (leb (number group.feature) d) fits in
      by_step d (after_label before line) 32 (group.feature ++ (58 ∷ value_text group.value) ++ rest) refl
      ∙ ap (lines_from d (in_number before line [])) (append_assoc group.feature (58 ∷ value_text group.value) rest)
      ∙ number_digits d before line [] group.feature (58 ∷ (value_text group.value ++ rest)) (numeral_digits group.feature both.0)
      ∙ by_step d (in_number before line group.feature) 58 (value_text group.value ++ rest)
      (ap (λ t. cond t (in_value before line (record { feature = group.feature; value = unread })) wrong) (&&_true (&&_true both.0 rises.0) rises.1))
      ∙ value_text_lem group.feature group.value.minus group.value.digits rest each

  -- after a value as after a label
  value_ended : (group : Group) → value_formed group.value ≡ true → (groups : List Group) (rest : List ℕ)
      → lines_from d (in_value before line group) (groups_text groups ++ (10 ∷ rest))
      ≡ lines_from d (after_label before (with_group line group)) (groups_text groups ++ (10 ∷ rest))
  unfolding groups_text
  value_ended group formed [] rest = value_ends d before line group (10 ∷ rest) refl refl ∙ chosen _ formed
  value_ended group formed (next ∷ more) rest = value_ends d before line group (groups_text (next ∷ more) ++ (10 ∷ rest)) refl refl ∙ chosen _ formed

-- the rest of a line
line_rest : (d : ℕ) (before : List Line) (line : Line) (groups : List Group) (rest : List ℕ) → every group_formed groups ≡ true → rising d (last_of 0 line.groups) groups ≡ true
    → lines_from d (after_label before line) (groups_text groups ++ (10 ∷ rest))
    ≡ lines_from d (at_start (before ++ (record { label = line.label; groups = line.groups ++ groups } ∷ []))) rest
unfolding lines_from step groups_text every rising
line_rest d before line [] rest formed rise =
    ap (λ l. lines_from d (at_start (before ++ (record { label = line.label; groups = l } ∷ []))) rest) (sym (append-nil line.groups))
line_rest d before line (group ∷ more) rest formed rise =
    let each = &&_both (group_formed group) (every group_formed more) formed in
    let fits = &&_both (ltb (last_of 0 line.groups) (number group.feature) && leb (number group.feature) d) (rising d (number group.feature) more) rise in
    ap (lines_from d (after_label before line)) (append_assoc (group_text group) (groups_text more) (10 ∷ rest))
    ∙ group_text_lem d before line group (groups_text more ++ (10 ∷ rest)) each.0 fits.0
    ∙ value_ended d before line group (&&_right (numeral group.feature) (value_formed group.value) each.0) more rest
    ∙ line_rest d before (with_group line group) more rest each.1 (ap (λ n. rising d n more) (last-append 0 line.groups group) ∙ fits.1)
    ∙ ap (λ l. lines_from d (at_start (before ++ (record { label = line.label; groups = l } ∷ []))) rest) (append_assoc line.groups (group ∷ []) more)

line_found : (d : ℕ) (before : List Line) (line : Line) (rest : List ℕ) → line_formed d line ≡ true
    → lines_from d (at_start before) (line_text line ++ rest) ≡ lines_from d (at_start (before ++ (line ∷ []))) rest
unfolding line_formed last_of lines_from step
line_found d before line rest formed =
    let both = &&_both (every group_formed line.groups) (rising d 0 line.groups) formed in
    signed line.label
    ∙ ap (lines_from d (after_label before (record { label = line.label; groups = [] }))) (append_assoc (groups_text line.groups) (10 ∷ []) rest)
    ∙ line_rest d before (record { label = line.label; groups = [] }) line.groups rest both.0 both.1
  where
    signed : (label : Label) → lines_from d (at_start before) (sign_byte label ∷ 49 ∷ (groups_text line.groups ++ (10 ∷ []) ++ rest))
        ≡ lines_from d (after_label before (record { label = label; groups = [] })) (groups_text line.groups ++ (10 ∷ []) ++ rest)
    signed LookedUp = refl
    signed PassedOver = refl

pub text_found : (d : ℕ) (before lines : List Line) → every (line_formed d) lines ≡ true → lines_from d (at_start before) (text_of lines) ≡ some (before ++ lines)
unfolding lines_from text_of every
text_found d before [] formed = ap some (sym (append-nil before))
text_found d before (line ∷ more) formed =
    let both = &&_both (line_formed d line) (every (line_formed d) more) formed in
    line_found d before line (text_of more) both.0 ∙ text_found d (before ++ (line ∷ [])) more both.1 ∙ ap some (append_assoc before (line ∷ []) more)

-- ---- from the text to the lines: what is found prints as the text

-- the line's bytes before its newline
abbrev line_head : Line → List ℕ
line_head line = sign_byte line.label ∷ 49 ∷ groups_text line.groups

-- the bytes that lead to a state
abbrev printed : State → List ℕ
printed (at_start before) = text_of before
printed (after_sign before label) = text_of before ++ (sign_byte label ∷ [])
printed (after_label before line) = text_of before ++ line_head line
printed (in_number before line digits) = text_of before ++ (line_head line ++ (32 ∷ digits))
printed (in_value before line group) = text_of before ++ (line_head line ++ group_text group)
printed wrong = []

-- what is formed of it
abbrev Good : ℕ → State → Type 0
Good d (at_start before) = every (line_formed d) before ≡ true
Good d (after_sign before label) = every (line_formed d) before ≡ true
Good d (after_label before line) = (every (line_formed d) before ≡ true) × (line_formed d line ≡ true)
Good d (in_number before line digits) = (every (line_formed d) before ≡ true) × (line_formed d line ≡ true)
Good d (in_value before line group) = (every (line_formed d) before ≡ true) × (line_formed d line ≡ true) × (number_fits d line group.feature ≡ true)
Good d wrong = ⊥

-- a state after a byte: it prints as the text with the byte, unless the text is wrong from here on
abbrev Prints : (d : ℕ) (text : List ℕ) (byte : ℕ) → State → Type 0
Prints d text byte state = (state ≡ wrong) ⊎ (Good d state × (printed state ≡ text ++ (byte ∷ [])))

module _ (d : ℕ) (byte : ℕ) where
  -- by a test of the byte
  by_test : (text : List ℕ) (test : Bool) {this that : State} → (test ≡ true → Prints d text byte this) → (test ≡ false → Prints d text byte that)
      → Prints d text byte (cond test this that)
  by_test text true p q = p refl
  by_test text false p q = q refl

  -- the byte that a test says
  is_byte : (text : List ℕ) (wanted : ℕ) → eqb byte wanted ≡ true → text ++ (wanted ∷ []) ≡ text ++ (byte ∷ [])
  is_byte text wanted e = ap (λ b. text ++ (b ∷ [])) (sym (eqb-true byte wanted e))

  onward_prints : (before : List Line) (line : Line) → Good d (after_label before line) → Prints d (printed (after_label before line)) byte (onward before line byte)
  onward_prints before line good =
      by_test (text_of before ++ line_head line) (eqb byte 32)
      (λ e. inr (good, sym (append_assoc (text_of before) (line_head line) (32 ∷ [])) ∙ is_byte (text_of before ++ line_head line) 32 e))
      (λ other. by_test (text_of before ++ line_head line) (eqb byte 10)
      (λ e. inr (
        every_append (line_formed d) before line ∙ &&_true good.0 good.1,
        text-append before line ∙ sym (append_assoc (text_of before) (line_head line) (10 ∷ [])) ∙ is_byte (text_of before ++ line_head line) 10 e,
      ))
      (λ neither. inl refl))

  module _ (before : List Line) (line : Line) where
    -- the line's bytes with more of them
    longer : (more end : List ℕ) → text_of before ++ (line_head line ++ more) ++ end ≡ text_of before ++ (line_head line ++ (more ++ end))
    longer more end = append_assoc (text_of before) (line_head line ++ more) end ∙ ap (λ t. text_of before ++ t) (append_assoc (line_head line) more end)

    number_prints : (digits : List ℕ) → Good d (in_number before line digits) → Prints d (printed (in_number before line digits)) byte (step d (in_number before line digits) byte)
    unfolding step
    number_prints digits good =
        by_test (printed (in_number before line digits)) (digit byte)
        (λ e. inr (good, sym (longer (32 ∷ digits) (byte ∷ []))))
        (λ other. by_test (printed (in_number before line digits)) (eqb byte 58 && number_fits d line digits)
        (λ e.
        let both = &&_both (eqb byte 58) (number_fits d line digits) e in
        inr ((good.0, good.1, both.1), sym (longer (32 ∷ digits) (58 ∷ [])) ∙ is_byte (printed (in_number before line digits)) 58 both.0))
        (λ neither. inl refl))

    module _ (feature : List ℕ) where
      -- the group's bytes with more of its value's
      value_longer : (text end : List ℕ)
          → text_of before ++ (line_head line ++ (32 ∷ (feature ++ (58 ∷ (text ++ end))))) ≡ text_of before ++ (line_head line ++ (32 ∷ (feature ++ (58 ∷ text)))) ++ end
      value_longer text end =
          ap (λ t. text_of before ++ (line_head line ++ (32 ∷ t))) (sym (append_assoc feature (58 ∷ text) end)) ∙ sym (longer (32 ∷ (feature ++ (58 ∷ text))) end)

      digit_longer : (minus : Bool) (digits : List ℕ)
          → printed (partly d before line feature minus (digits ++ (byte ∷ []))) ≡ printed (partly d before line feature minus digits) ++ (byte ∷ [])
      digit_longer true digits = value_longer (45 ∷ digits) (byte ∷ [])
      digit_longer false digits = value_longer digits (byte ∷ [])

      minus_longer : (minus : Bool) (digits : List ℕ) → is_unread (record { minus = minus; digits = digits }) ≡ true → eqb byte 45 ≡ true
          → printed (partly d before line feature true []) ≡ printed (partly d before line feature minus digits) ++ (byte ∷ [])
      minus_longer true digits u e = clash u refl
      minus_longer false (first ∷ more) u e = clash u refl
      minus_longer false [] u e = value_longer [] (45 ∷ []) ∙ is_byte (printed (partly d before line feature false [])) 45 e

      value_prints : (minus : Bool) (digits : List ℕ) → Good d (partly d before line feature minus digits)
          → Prints d (printed (partly d before line feature minus digits)) byte (step d (partly d before line feature minus digits) byte)
      unfolding step
      value_prints minus digits good =
          let value : Value = record { minus = minus; digits = digits } in
          let group : Group = record { feature = feature; value = value } in
          let text = printed (in_value before line group) in
          by_test text (digit byte)
          (λ e. inr (good, digit_longer minus digits))
          (λ other. by_test text (eqb byte 45 && is_unread value)
          (λ e. inr (good, minus_longer minus digits (&&_right (eqb byte 45) (is_unread value) e) (&&_left (eqb byte 45) (is_unread value) e)))
          (λ neither. by_test text (value_formed value)
          (λ formed.
          let fits = good.2 in
          let numbered = &&_both (numeral feature && ltb (last_of 0 line.groups) (number feature)) (leb (number feature) d) fits in
          let rises = &&_both (numeral feature) (ltb (last_of 0 line.groups) (number feature)) numbered.0 in
          subst (λ t. Prints d (text_of before ++ (sign_byte line.label ∷ 49 ∷ t)) byte (onward before (with_group line group) byte)) (groups_text-append line.groups group)
          (onward_prints before (with_group line group) (good.0, line_more d line group good.1 (&&_true rises.0 formed) (&&_true rises.1 numbered.1))))
          (λ unformed. inl refl)))

  state_prints : (state : State) → Good d state → Prints d (printed state) byte (step d state byte)
  unfolding step text_of groups_text line_formed every rising
  state_prints (at_start before) good =
      by_test (text_of before) (eqb byte 43)
      (λ e. inr (good, is_byte (text_of before) 43 e))
      (λ other. by_test (text_of before) (eqb byte 45) (λ e. inr (good, is_byte (text_of before) 45 e)) (λ neither. inl refl))
  state_prints (after_sign before label) good =
      by_test (text_of before ++ (sign_byte label ∷ [])) (eqb byte 49)
      (λ e. inr ((good, refl), sym (append_assoc (text_of before) (sign_byte label ∷ []) (49 ∷ [])) ∙ is_byte (text_of before ++ (sign_byte label ∷ [])) 49 e))
      (λ other. inl refl)
  state_prints (after_label before line) good = onward_prints before line good
  state_prints (in_number before line digits) good = number_prints before line digits good
  state_prints (in_value before line group) good = value_prints before line group.feature group.value.minus group.value.digits good
  state_prints wrong good = absurd good

found_prints : (d : ℕ) (text : List ℕ) (state : State) (lines : List Line) → Good d state → lines_from d state text ≡ some lines → HasForm d (printed state ++ text) lines
unfolding lines_from
found_prints d [] (at_start before) lines good e =
    let same = some-injective before lines e in
    record { formed = ap (every (line_formed d)) (sym same) ∙ good; is = append-nil (text_of before) ∙ ap text_of same }
found_prints d [] (after_sign before label) lines good e = absurd (some-ne-none lines (sym e))
found_prints d [] (after_label before line) lines good e = absurd (some-ne-none lines (sym e))
found_prints d [] (in_number before line digits) lines good e = absurd (some-ne-none lines (sym e))
found_prints d [] (in_value before line group) lines good e = absurd (some-ne-none lines (sym e))
found_prints d [] wrong lines good e = absurd good
found_prints d (byte ∷ text) state lines good e = by (state_prints d byte state good) (λ next. found_prints d text (step d state byte) lines next e)
  where
    by : Prints d (printed state) byte (step d state byte) → (Good d (step d state byte) → HasForm d (printed (step d state byte) ++ text) lines)
        → HasForm d (printed state ++ (byte ∷ text)) lines
    by (inl stops) rest = absurd (some-ne-none lines (sym e ∙ ap (λ s. lines_from d s text) stops ∙ wrong_stays d text))
    by (inr goes) rest =
        subst (λ t. HasForm d t lines) (ap (λ t. t ++ text) goes.1 ∙ append_assoc (printed state) (byte ∷ []) text) (rest goes.0)

-- A text has the form exactly where it is the text of lines that are formed, and those are the lines that are found.
pub lines_exactly : (d : ℕ) (text : List ℕ) (lines : List Line) → (text_lines d text ≡ some lines) ↔ HasForm d text lines
unfolding text_of every
lines_exactly d text lines = (
  λ e. found_prints d text (at_start []) lines refl e,
  λ form. ap (text_lines d) form.is ∙ text_found d [] lines form.formed,
)

-- It is the text of one list of lines alone.
pub one_list : (d : ℕ) (text : List ℕ) (lines others : List Line) → HasForm d text lines → HasForm d text others → lines ≡ others
one_list d text lines others this that =
    some-injective lines others (sym ((lines_exactly d text lines).1 this) ∙ (lines_exactly d text others).1 that)

-- ---- lines before

-- a state with more lines before it
abbrev behind : List Line → State → State
behind front (at_start before) = at_start (front ++ before)
behind front (after_sign before label) = after_sign (front ++ before) label
behind front (after_label before line) = after_label (front ++ before) line
behind front (in_number before line digits) = in_number (front ++ before) line digits
behind front (in_value before line group) = in_value (front ++ before) line group
behind front wrong = wrong

-- those lines before the ones that are found
abbrev pub joined : List Line → Option (List Line) → Option (List Line)
joined front none = none
joined front (some lines) = some (front ++ lines)

module _ (front : List Line) where
  behind_either : (test : Bool) (this that : State) → cond test (behind front this) (behind front that) ≡ behind front (cond test this that)
  behind_either true this that = refl
  behind_either false this that = refl

  behind_onward : (before : List Line) (line : Line) (byte : ℕ) → onward (front ++ before) line byte ≡ behind front (onward before line byte)
  behind_onward before line byte =
      ap (λ l. cond (eqb byte 32) (in_number (front ++ before) line []) (cond (eqb byte 10) (at_start l) wrong)) (append_assoc front before (line ∷ []))
      ∙ ap (cond (eqb byte 32) (in_number (front ++ before) line [])) (behind_either (eqb byte 10) (at_start (before ++ (line ∷ []))) wrong)
      ∙ behind_either (eqb byte 32) (in_number before line []) (cond (eqb byte 10) (at_start (before ++ (line ∷ []))) wrong)

  behind_step : (d : ℕ) (state : State) (byte : ℕ) → step d (behind front state) byte ≡ behind front (step d state byte)
  unfolding step
  behind_step d (at_start before) byte =
      ap (cond (eqb byte 43) (after_sign (front ++ before) LookedUp)) (behind_either (eqb byte 45) (after_sign before PassedOver) wrong)
      ∙ behind_either (eqb byte 43) (after_sign before LookedUp) (cond (eqb byte 45) (after_sign before PassedOver) wrong)
  behind_step d (after_sign before label) byte = behind_either (eqb byte 49) (after_label before (record { label = label; groups = [] })) wrong
  behind_step d (after_label before line) byte = behind_onward before line byte
  behind_step d (in_number before line digits) byte =
      ap (cond (digit byte) (in_number (front ++ before) line (digits ++ (byte ∷ []))))
      (behind_either (eqb byte 58 && number_fits d line digits) (in_value before line (record { feature = digits; value = unread })) wrong)
      ∙ behind_either (digit byte) (in_number before line (digits ++ (byte ∷ []))) _
  behind_step d (in_value before line group) byte =
      ap (λ t. cond (digit byte) (more (front ++ before)) (cond (eqb byte 45 && is_unread group.value) (minus (front ++ before)) (cond (value_formed group.value) t wrong)))
      (behind_onward before (with_group line group) byte)
      ∙ ap (λ t. cond (digit byte) (more (front ++ before)) (cond (eqb byte 45 && is_unread group.value) (minus (front ++ before)) t))
      (behind_either (value_formed group.value) (onward before (with_group line group) byte) wrong)
      ∙ ap (cond (digit byte) (more (front ++ before))) (behind_either (eqb byte 45 && is_unread group.value) (minus before) _)
      ∙ behind_either (digit byte) (more before) _
    where
      more : List Line → State
      more lines = in_value lines line (record { feature = group.feature; value = with_digit group.value byte })

      minus : List Line → State
      minus lines = in_value lines line (record { feature = group.feature; value = record { minus = true; digits = [] } })
  behind_step d wrong byte = refl

  behind_from : (d : ℕ) (text : List ℕ) (state : State) → lines_from d (behind front state) text ≡ joined front (lines_from d state text)
  unfolding lines_from
  behind_from d [] (at_start before) = refl
  behind_from d [] (after_sign before label) = refl
  behind_from d [] (after_label before line) = refl
  behind_from d [] (in_number before line digits) = refl
  behind_from d [] (in_value before line group) = refl
  behind_from d [] wrong = refl
  behind_from d (byte ∷ text) state = ap (λ s. lines_from d s text) (behind_step d state byte) ∙ behind_from d text (step d state byte)

  -- the lines of a text after some lines are those lines and its own
  pub from_before : (d : ℕ) (text : List ℕ) → lines_from d (at_start front) text ≡ joined front (text_lines d text)
  from_before d text = ap (λ l. lines_from d (at_start l) text) (sym (append-nil front)) ∙ behind_from d text (at_start [])
