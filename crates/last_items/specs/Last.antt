-- Which items of a pool stay: document 02, request (h), "Among items with the same d features, whatever their labels, only the last stays".
-- Assumes nothing.
use Rattle.std.specs.Prelude.{Bool, false, ◌||◌, not, cond, List, [], ◌∷◌, ℕ, pos, get_or}
use Rattle.integers.specs.Equal.{equal}
use Rattle.integers.specs.Places.{all}
use Rattle.training_file.specs.declared.item.Item.{Item}

-- "the same d features, whatever their labels"
unfoldable pub same_features : (d : ℕ) → Item → Item → Bool
same_features d a b = all d (λ i. equal (get_or a.features i (pos 0)) (get_or b.features i (pos 0)))

-- whether one of a list of items has the same d features as this one
unfoldable pub repeated : (d : ℕ) → Item → List Item → Bool
repeated d item [] = false
repeated d item (other ∷ others) = same_features d item other || repeated d item others

-- those of a list that stay, in their order, by a test of each and of the later ones
unfoldable pub staying : {A : Type 0} → (A → List A → Bool) → List A → List A
staying stays [] = []
staying stays (first ∷ later) = cond (stays first later) (first ∷ staying stays later) (staying stays later)

-- "only the last stays": an item stays where no later one has its features
abbrev pub is_last : (d : ℕ) → Item → List Item → Bool
is_last d item later = not (repeated d item later)

abbrev pub last_only : (d : ℕ) → List Item → List Item
last_only d items = staying (is_last d) items
