-- The form of a text: document 02, request (c). A text is the bytes of its lines, one after the other, and the lines are formed. Assumes
-- nothing.
use Rattle.std.specs.Prelude.{◌≡◌, Bool, true, false, ◌&&◌, not, cond, List, [], ◌∷◌, ◌++◌, ℕ, eqb, leb, ltb}
use Rattle.training_file.specs.declared.item.Label.{Label}
use Rattle.training_file.specs.declared.item.Label.TheVariants.{LookedUp, PassedOver}
use Rattle.training_file.specs.Record.{every}
use Rattle.text.specs.Decimal as decimal

-- ---- numbers, as the bytes of their digits

-- "decimal digits": the bytes 48, `0`, to 57, `9`
abbrev pub digit : ℕ → Bool
digit byte = leb 48 byte && leb byte 57

-- "Numbers have no leading zeros": one digit, or several of which the first is not `0`
unfoldable pub numeral : List ℕ → Bool
numeral [] = false
numeral (first ∷ []) = digit first
numeral (first ∷ second ∷ more) = not (eqb first 48) && every digit (first ∷ second ∷ more)

-- the number that digits say
abbrev pub number : List ℕ → ℕ
number digits = decimal.value 0 digits

-- ---- values

-- "A value is an optional minus sign and decimal digits."
pub record Value : Type 0 where
  pub minus : Bool
  pub digits : List ℕ

-- the minus sign is byte 45
abbrev pub value_text : Value → List ℕ
value_text value = cond value.minus (45 ∷ value.digits) value.digits

-- "and −0 is not allowed"
abbrev pub value_formed : Value → Bool
value_formed value = numeral value.digits && not (value.minus && eqb (number value.digits) 0)

-- ---- groups

-- "groups of one space, feature number, colon, value"
pub record Group : Type 0 where
  pub feature : List ℕ
  pub value : Value

-- the space is byte 32, the colon byte 58
abbrev pub group_text : Group → List ℕ
group_text group = 32 ∷ (group.feature ++ (58 ∷ value_text group.value))

unfoldable pub groups_text : List Group → List ℕ
groups_text [] = []
groups_text (group ∷ more) = group_text group ++ groups_text more

abbrev pub group_formed : Group → Bool
group_formed group = numeral group.feature && value_formed group.value

-- "Feature numbers rise strictly, 1 to d": each is above the one before, the first above 0
unfoldable pub rising : (d before : ℕ) → List Group → Bool
rising d before [] = true
rising d before (group ∷ more) =
    ltb before (number group.feature) && leb (number group.feature) d && rising d (number group.feature) more

-- ---- lines

-- "A line is `+1` or `-1`, then any number of groups .., then a newline, which the last line has too."
pub record Line : Type 0 where
  pub label : Label
  pub groups : List Group

-- the plus sign is byte 43
abbrev pub sign_byte : Label → ℕ
sign_byte LookedUp = 43
sign_byte PassedOver = 45

-- `1` is byte 49, the newline byte 10
abbrev pub line_text : Line → List ℕ
line_text line = sign_byte line.label ∷ 49 ∷ (groups_text line.groups ++ (10 ∷ []))

unfoldable pub line_formed : (d : ℕ) → Line → Bool
line_formed d line = every group_formed line.groups && rising d 0 line.groups

-- ---- texts

unfoldable pub text_of : List Line → List ℕ
text_of [] = []
text_of (line ∷ more) = line_text line ++ text_of more

-- a text has this form, with d features in use, where it is the text of such lines
pub record HasForm (d : ℕ) (text : List ℕ) (lines : List Line) : Type 0 where
  pub formed : every (line_formed d) lines ≡ true
  pub is : text ≡ text_of lines
