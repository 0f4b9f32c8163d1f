-- What the lines of a text say: an item each. Assumes nothing.
use Rattle.std.specs.Prelude.{Bool, true, false, cond, List, [], ◌∷◌, map, ℕ, suc, eqb, ℤ, pos, negsuc, neg_ℤ, get_or}
use Rattle.integers.specs.Tabulate.{tabulate}
use Rattle.training_file.specs.declared.item.Item.{Item}
use Rattle.training_file.specs.Layout.{feature_count}
use Rattle.training_file.specs.Item.{feature_allowed}
use Rattle.training_file.specs.Record.{every}
use Rattle.text.specs.Decimal.{decimal}
use Rattle.libsvm_text.specs.Form.{Group, Line, Value, number}

-- the number that a value says
abbrev pub signed_number : (minus : Bool) → ℕ → ℤ
signed_number minus magnitude = cond minus (neg_ℤ (pos magnitude)) (pos magnitude)

abbrev pub value_of : Value → ℤ
value_of value = signed_number value.minus (number value.digits)

-- the value of the group with a feature number; "an omitted one is 0"
unfoldable pub feature_in : List Group → ℕ → ℤ
feature_in [] wanted = pos 0
feature_in (group ∷ more) wanted = cond (eqb (number group.feature) wanted) (value_of group.value) (feature_in more wanted)

-- sixteen features, numbered from 1
abbrev pub line_features : List Group → List ℤ
line_features groups = tabulate feature_count (λ i. feature_in groups (suc i))

abbrev pub line_item : Line → Item
line_item line = record { label = line.label; features = line_features line.groups }

abbrev pub line_items : List Line → List Item
line_items lines = map line_item lines

-- refusal 4: "a well-formed value outside the range, however long"
abbrev pub group_allowed : Group → Bool
group_allowed group = feature_allowed (value_of group.value)

abbrev pub line_allowed : Line → Bool
line_allowed line = every group_allowed line.groups

-- ---- the line that says an item

-- a number as a value
abbrev pub value_from : ℤ → Value
value_from (pos magnitude) = record { minus = false; digits = decimal magnitude }
value_from (negsuc less) = record { minus = true; digits = decimal (suc less) }

-- the feature at a place, counted from 0, as a group
abbrev pub feature_group : (place : ℕ) → ℤ → Group
feature_group place feature = record { feature = decimal (suc place); value = value_from feature }

-- each feature in use as a group
abbrev pub item_line : (d : ℕ) → Item → Line
item_line d item = record { label = item.label; groups = tabulate d (λ i. feature_group i (get_or item.features i (pos 0))) }
