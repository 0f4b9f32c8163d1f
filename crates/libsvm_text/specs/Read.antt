-- What the code answers that reads a text from a place on. Assumes nothing.
use Rattle.std.specs.Prelude.{◌≡◌, Bool, true, false, ◌&&◌, ◌||◌, cond, List, [], ◌∷◌, ◌++◌, ℕ, ◌+◌, ◌≤◌, ◌<◌, eqb, leb, ltb, ℤ, drop, get_or, length, Option, Some, None}
use Rattle.std.proofs.Math.Option.{none}
use Rattle.training_file.specs.declared.item.Label.{Label}
use Rattle.training_file.specs.declared.item.Label.TheVariants.{LookedUp, PassedOver}
use Rattle.training_file.specs.Item.{feature_allowed, feature_most}
use Rattle.training_file.specs.Record.{every}
use Rattle.libsvm_text.specs.declared.place.Found.{Found}
use Rattle.libsvm_text.specs.declared.group.GroupRead.{GroupRead}
use Rattle.libsvm_text.specs.declared.line.LineRead.{LineRead}
use Rattle.libsvm_text.specs.Form.{Group, Line, Value, digit, number, numeral, rising, value_formed, value_text}
use Rattle.libsvm_text.specs.Items.{group_allowed, line_features, value_of}
use Rattle.libsvm_text.specs.Lines.{after_label, at_start, lines_from}

-- ---- digits

-- a digit that may be the first of several
abbrev pub leads : ℕ → Bool
leads byte = leb 49 byte && leb byte 57

-- the digits that a text starts with
unfoldable pub leading : List ℕ → List ℕ
leading [] = []
leading (byte ∷ text) = cond (digit byte) (byte ∷ leading text) []

-- a number, none where it is past every limit: no feature and no feature number is above 127
abbrev pub limited : ℕ → Option ℕ
limited said = cond (leb said feature_most) (Some said) None

-- the digits at a place, however many
pub record DigitsFound (text : List ℕ) (at : ℕ) (read : Found (Option ℕ)) : Type 0 where
  pub leads_is : leads (get_or text at 0) ≡ true
  pub number_is : read.what ≡ limited (number (leading (drop at text)))
  pub end_is : read.end ≡ at + length (leading (drop at text))

-- those digits; none where the byte at the place may not be the first of several
abbrev pub ReadsDigits : List ℕ → ℕ → Option (Found (Option ℕ)) → Type 0
ReadsDigits text at (Some read) = DigitsFound text at read
ReadsDigits text at None = leads (get_or text at 0) ≡ false

-- ---- values

-- whether a text starts with a minus sign
abbrev pub minus_at : List ℕ → Bool
minus_at text = eqb (get_or text 0 0) 45

-- the value that a text starts with
abbrev pub leading_value : List ℕ → Value
leading_value text = record { minus = minus_at text; digits = leading (drop (cond (minus_at text) 1 0) text) }

-- a value as a feature, none where it is outside the range
abbrev pub feature_of : Value → Option ℤ
feature_of value = cond (feature_allowed (value_of value)) (Some (value_of value)) None

-- a value that is read up to a place
pub record ValueFound (value : Value) (end : ℕ) (read : Found (Option ℤ)) : Type 0 where
  pub formed : value_formed value ≡ true
  pub feature_is : read.what ≡ feature_of value
  pub end_is : read.end ≡ end

-- that value, where it is one
abbrev pub ReadsValue : Value → (end : ℕ) → Option (Found (Option ℤ)) → Type 0
ReadsValue value end (Some read) = ValueFound value end read
ReadsValue value end None = value_formed value ≡ false

-- ---- groups, from the place after the space on

-- the group that a text starts with
abbrev pub leading_group : List ℕ → Group
leading_group text = record { feature = leading text; value = leading_value (drop (length (leading text) + 1) text) }

-- whether a feature number and a colon lead, after a group with the feature number `last`
abbrev pub number_leads : (d last : ℕ) → List ℕ → Bool
number_leads d last text =
    eqb (get_or text (length (leading text)) 0) 58
    && (numeral (leading text) && ltb last (number (leading text)) && leb (number (leading text)) d)

-- the number at a place
pub record NumberFound (d last : ℕ) (text : List ℕ) (at : ℕ) (read : Found ℕ) : Type 0 where
  pub leads_is : number_leads d last (drop at text) ≡ true
  pub number_is : read.what ≡ number (leading (drop at text))
  pub end_is : read.end ≡ at + length (leading (drop at text))

-- that number, where there is one
abbrev pub ReadsNumber : (d last : ℕ) → List ℕ → ℕ → Option (Found ℕ) → Type 0
ReadsNumber d last text at (Some read) = NumberFound d last text at read
ReadsNumber d last text at None = number_leads d last (drop at text) ≡ false

-- whether a group leads
abbrev pub group_leads : (d last : ℕ) → List ℕ → Bool
group_leads d last text = number_leads d last text && value_formed (leading_group text).value

abbrev pub group_length : List ℕ → ℕ
group_length text = length (leading text) + 1 + length (value_text (leading_group text).value)

-- the group at a place
pub record GroupFound (d last : ℕ) (text : List ℕ) (at : ℕ) (read : Found GroupRead) : Type 0 where
  pub leads_is : group_leads d last (drop at text) ≡ true
  pub number_is : read.what.number ≡ number (leading_group (drop at text)).feature
  pub feature_is : read.what.feature ≡ feature_of (leading_group (drop at text)).value
  pub end_is : read.end ≡ at + group_length (drop at text)

-- that group, where there is one
abbrev pub ReadsGroup : (d last : ℕ) → List ℕ → ℕ → Option (Found GroupRead) → Type 0
ReadsGroup d last text at (Some read) = GroupFound d last text at read
ReadsGroup d last text at None = group_leads d last (drop at text) ≡ false

-- ---- lines

-- the label of the line at a place, where it is one
abbrev pub label_at : List ℕ → ℕ → Option Label
label_at text at =
    cond ((eqb (get_or text at 0) 43 || eqb (get_or text at 0) 45) && eqb (get_or text (at + 1) 0) 49)
    (Some (cond (eqb (get_or text at 0) 43) LookedUp PassedOver))
    None

-- groups of a line from one place to another: the text has them there, whichever lines are before and whatever the label
pub record GroupsBetween (d : ℕ) (text : List ℕ) (at end : ℕ) (groups : List Group) : Type 0 where
  pub found :
      (before : List Line) (label : Label)
      → lines_from d (after_label before (record { label = label; groups = [] })) (drop at text)
      ≡ lines_from d (after_label before (record { label = label; groups = groups })) (drop end text)
  pub rises : rising d 0 groups ≡ true
  pub onward : at ≤ end
  pub within : end < length text

-- the features of groups, none where a value is outside the range
abbrev pub features_of : List Group → Option (List ℤ)
features_of groups = cond (every group_allowed groups) (Some (line_features groups)) None

-- all groups from a place on: the byte after them is no space
pub record GroupsFound (d : ℕ) (text : List ℕ) (at : ℕ) (read : Found (Option (List ℤ))) : Type 0 where
  pub groups : List Group
  pub between : GroupsBetween d text at read.end groups
  pub last : eqb (get_or text read.end 0) 32 ≡ false
  pub features_are : read.what ≡ features_of groups

-- those groups; where one is not of the form, the text is not
abbrev pub ReadsGroups : (d : ℕ) → List ℕ → ℕ → Option (Found (Option (List ℤ))) → Type 0
ReadsGroups d text at (Some read) = GroupsFound d text at read
ReadsGroups d text at None =
    (before : List Line) (label : Label) → lines_from d (after_label before (record { label = label; groups = [] })) (drop at text) ≡ none

-- a line at a place: the text has it there, whichever lines are before
pub record LineFound (d : ℕ) (text : List ℕ) (at : ℕ) (read : Found LineRead) : Type 0 where
  pub line : Line
  pub found : (before : List Line) → lines_from d (at_start before) (drop at text) ≡ lines_from d (at_start (before ++ (line ∷ []))) (drop read.end text)
  pub label_is : read.what.label ≡ line.label
  pub features_are : read.what.features ≡ features_of line.groups
  pub onward : at < read.end
  pub within : read.end ≤ length text

-- that line; where there is none, the text is not of the form
abbrev pub ReadsLine : (d : ℕ) → List ℕ → ℕ → Option (Found LineRead) → Type 0
ReadsLine d text at (Some read) = LineFound d text at read
ReadsLine d text at None = (before : List Line) → lines_from d (at_start before) (drop at text) ≡ none
