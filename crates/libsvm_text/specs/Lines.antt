-- The lines of a text, found byte by byte. That these are the lines of which it is the text, and that no other text has any, is the theorem
-- `lines_exactly` (proofs/Laws/Lines.antt). Assumes nothing.
use Rattle.std.specs.Prelude.{Bool, true, false, ◌&&◌, not, cond, List, [], ◌∷◌, ◌++◌, ℕ, eqb, leb, ltb}
use Rattle.std.proofs.Math.Option.{Option, none, some}
use Rattle.training_file.specs.declared.item.Label.{Label}
use Rattle.training_file.specs.declared.item.Label.TheVariants.{LookedUp, PassedOver}
use Rattle.libsvm_text.specs.Form.{Group, Line, Value, digit, number, numeral, value_formed}

-- a line so far, with a group more
abbrev pub with_group : Line → Group → Line
with_group line group = record { label = line.label; groups = line.groups ++ (group ∷ []) }

-- the feature number of the last group, or `before` where there is none
unfoldable pub last_of : (before : ℕ) → List Group → ℕ
last_of before [] = before
last_of before (group ∷ more) = last_of (number group.feature) more

-- where a text stands after some of its bytes: the lines before, and what is read of the next one
pub data State : Type 0 where
  at_start : List Line → State
  after_sign : List Line → Label → State
  after_label : List Line → Line → State
  in_number : List Line → Line → (digits : List ℕ) → State
  in_value : List Line → Line → Group → State
  wrong : State

-- after a label or a value: a space and another group, or the newline
abbrev pub onward : List Line → Line → ℕ → State
onward before line byte = cond (eqb byte 32) (in_number before line []) (cond (eqb byte 10) (at_start (before ++ (line ∷ []))) wrong)

-- whether digits are the feature number of the next group
abbrev pub number_fits : (d : ℕ) → Line → List ℕ → Bool
number_fits d line digits = numeral digits && ltb (last_of 0 line.groups) (number digits) && leb (number digits) d

-- the value as far as it is read, with a digit more
abbrev pub with_digit : Value → ℕ → Value
with_digit value byte = record { minus = value.minus; digits = value.digits ++ (byte ∷ []) }

-- nothing of the value is read yet
abbrev pub unread : Value
unread = record { minus = false; digits = [] }

abbrev pub is_empty : List ℕ → Bool
is_empty [] = true
is_empty (byte ∷ more) = false

abbrev pub is_unread : Value → Bool
is_unread value = not value.minus && is_empty value.digits

unfoldable pub step : (d : ℕ) → State → ℕ → State
step d (at_start before) byte = cond (eqb byte 43) (after_sign before LookedUp) (cond (eqb byte 45) (after_sign before PassedOver) wrong)
step d (after_sign before label) byte = cond (eqb byte 49) (after_label before (record { label = label; groups = [] })) wrong
step d (after_label before line) byte = onward before line byte
step d (in_number before line digits) byte =
    cond (digit byte) (in_number before line (digits ++ (byte ∷ [])))
    (cond (eqb byte 58 && number_fits d line digits) (in_value before line (record { feature = digits; value = unread })) wrong)
step d (in_value before line group) byte =
    cond (digit byte) (in_value before line (record { feature = group.feature; value = with_digit group.value byte }))
    (cond (eqb byte 45 && is_unread group.value) (in_value before line (record { feature = group.feature; value = record { minus = true; digits = [] } }))
    (cond (value_formed group.value) (onward before (with_group line group) byte) wrong))
step d wrong byte = wrong

-- the lines of a text that ends here: it ends where a line does
abbrev pub ended : State → Option (List Line)
ended (at_start before) = some before
ended (after_sign before label) = none
ended (after_label before line) = none
ended (in_number before line digits) = none
ended (in_value before line group) = none
ended wrong = none

-- the lines of a text of which the rest is left
unfoldable pub lines_from : (d : ℕ) → State → List ℕ → Option (List Line)
lines_from d state [] = ended state
lines_from d state (byte ∷ text) = lines_from d (step d state byte) text

-- the lines of a text; none where it is not of the form
abbrev pub text_lines : (d : ℕ) → List ℕ → Option (List Line)
text_lines d text = lines_from d (at_start []) text
