-- An item and its ranges (document 01, "The training file": "An item is its label with sixteen signed features"). Assumes nothing.
use Rattle.std.specs.Prelude.{Bool, ◌&&◌, cond, List, [], ◌∷◌, ℕ, ◌+◌, ◌-◌, leb, eqb, ℤ, pos, neg_ℤ, get_or}
use Rattle.std.specs.Int.Signed.{le_z}
use Rattle.integers.specs.Zero.{is_zero}
use Rattle.integers.specs.Places.{all}
use Rattle.training_file.specs.declared.item.Label.{Label}
use Rattle.training_file.specs.declared.item.Label.TheVariants.{LookedUp, PassedOver}
use Rattle.training_file.specs.declared.item.Item.{Item}
use Rattle.training_file.specs.Layout.{feature_count}
use Rattle.training_file.specs.Parameters.{within}

-- "the label (1 looked up, y = +1; 2 passed over, y = −1)". No rule rests on the label of a byte that isn't allowed.
abbrev pub label_allowed : ℕ → Bool
label_allowed byte = within 1 2 byte

abbrev pub label_of_byte : ℕ → Label
label_of_byte byte = cond (eqb byte 1) LookedUp PassedOver

-- the byte of a label, which stands for it alone (`label_back`, `label_byte_back`)
abbrev pub byte_of_label : Label → ℕ
byte_of_label LookedUp = 1
byte_of_label PassedOver = 2

-- the other label: document 01 has several rules in pairs, the second being the first with y = +1 and y = −1 exchanged
abbrev pub opposite : Label → Label
opposite LookedUp = PassedOver
opposite PassedOver = LookedUp

-- 1 where two labels are the same, else 0
abbrev pub same : Label → Label → ℕ
same LookedUp LookedUp = 1
same LookedUp PassedOver = 0
same PassedOver LookedUp = 0
same PassedOver PassedOver = 1

-- "sixteen features, each a signed byte", which document 02, request (a), lets "run from −127 to 127"
abbrev pub feature_most : ℕ
feature_most = 127

abbrev pub feature_allowed : ℤ → Bool
feature_allowed feature = le_z (neg_ℤ (pos feature_most)) feature && le_z feature (pos feature_most)

abbrev pub each_feature_allowed : List ℤ → Bool
each_feature_allowed features = all feature_count (λ i. feature_allowed (get_or features i (pos 0)))

-- "Features past d are zero."
abbrev pub zero_past : ℕ → List ℤ → Bool
zero_past d features = all (feature_count - d) (λ i. is_zero (get_or features (d + i) (pos 0)))

-- sixteen features, the first d in use
unfoldable pub features_allowed : ℕ → List ℤ → Bool
features_allowed d features = each_feature_allowed features && zero_past d features

-- a label's byte and sixteen features, the first d in use
abbrev pub item_allowed : (d byte : ℕ) → List ℤ → Bool
item_allowed d byte features = label_allowed byte && features_allowed d features

-- the item of a label's byte and its features
abbrev pub item_of : ℕ → List ℤ → Item
item_of byte features = record { label = label_of_byte byte; features = features }

-- ---- lists of items

-- the item at a place of a list, counted from 0; past its end, one without features
abbrev pub item_in : List Item → ℕ → Item
item_in items place = get_or items place (record { label = PassedOver; features = [] })

-- how many items have a label
unfoldable pub labelled : Label → List Item → ℕ
labelled label [] = 0
labelled label (item ∷ items) = same label item.label + labelled label items

-- refusal 5: "one label, or both, has no item"
abbrev pub both_labels : List Item → Bool
both_labels items = leb 1 (labelled LookedUp items) && leb 1 (labelled PassedOver items)
