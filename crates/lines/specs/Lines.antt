-- The lines of the listing (document 01, last part of "Settled examples", and document 02, requests (k) and (l)), as lists of bytes: 32 is
-- the space and 10 ends a line. Assumes nothing.
use Rattle.std.specs.Prelude.{List, [], ◌∷◌, ◌++◌, ℕ, zero, suc, ℤ, get_or}
use Rattle.training_file.specs.declared.item.Item.{Item}
use Rattle.training_file.specs.declared.refusal.Refusal.{Refusal}
use Rattle.training_file.specs.Refusal.{number_of, record_of}
use Rattle.training_file.specs.declared.item.Label.{Label}
use Rattle.training_file.specs.declared.item.Label.TheVariants.{LookedUp, PassedOver}
use Rattle.training_file.specs.Item.{item_in}
use Rattle.reading.specs.Reading.{reading}
use Rattle.reading.specs.Calls.{items_in, order_in}
use Rattle.dual_problem.specs.Problem.{at}
use Rattle.smo.specs.declared.ending.Ending.{Ending}
use Rattle.smo.specs.declared.ending.Ending.TheVariants.{Converged, Stuck, Spent}
use Rattle.smo.specs.declared.run.Trained.{Trained}
use Rattle.text.specs.Decimal.{decimal, signed_decimal}
use Rattle.totals.specs.declared.sums.Shown.{Shown}
use Rattle.totals.specs.declared.sums.Totals.{Totals}
use Rattle.totals.specs.Totals.{totals}

-- `converged`, `stuck`, `spent`
abbrev pub ending_text : Ending → List ℕ
ending_text Converged = 99 ∷ 111 ∷ 110 ∷ 118 ∷ 101 ∷ 114 ∷ 103 ∷ 101 ∷ 100 ∷ []
ending_text Stuck = 115 ∷ 116 ∷ 117 ∷ 99 ∷ 107 ∷ []
ending_text Spent = 115 ∷ 112 ∷ 101 ∷ 110 ∷ 116 ∷ []

-- `+` for an item looked up, `-` for one passed over
abbrev pub label_sign : Label → ℕ
label_sign LookedUp = 43
label_sign PassedOver = 45

-- a space and a number
abbrev pub field : ℕ → List ℕ
field number = (32 ∷ []) ++ decimal number

-- a space and a number that may be negative
abbrev pub signed_field : ℤ → List ℕ
signed_field number = (32 ∷ []) ++ signed_decimal number

-- `refused` and `total`
abbrev pub refused_text : List ℕ
refused_text = 114 ∷ 101 ∷ 102 ∷ 117 ∷ 115 ∷ 101 ∷ 100 ∷ []

abbrev pub total_text : List ℕ
total_text = 116 ∷ 111 ∷ 116 ∷ 97 ∷ 108 ∷ []

-- Document 02, request (k): "a space and the record after the number"; nothing where the refusal carries none
abbrev pub record_field : ℕ → List ℕ
record_field zero = []
record_field (suc r) = field (suc r)

-- "`refused`, a space and the number"
abbrev pub refusal_line : Refusal → List ℕ
refusal_line why = refused_text ++ (field (number_of why) ++ (record_field (record_of why) ++ (10 ∷ [])))

-- "Line one: ending, steps, b_low, b_up."
unfoldable pub result_line : Trained → List ℕ
result_line trained = ending_text trained.ending ++ (field trained.steps ++ (signed_field trained.lower ++ (signed_field trained.upper ++ (10 ∷ []))))

-- "Each further line: record number, label, multiplier"
unfoldable pub item_line : Shown → List ℕ
item_line shown = decimal shown.number ++ ((32 ∷ label_sign shown.label ∷ 32 ∷ []) ++ (decimal shown.multiplier ++ (10 ∷ [])))

-- Document 02, request (l): "`total`, the count of multipliers above 0, the sum over label +1 and the sum over label −1"
unfoldable pub total_line : Totals → List ℕ
total_line totals = total_text ++ (field totals.count ++ (field totals.plus ++ (field totals.minus ++ (10 ∷ []))))

-- the texts of the places below n, one after the other
unfoldable pub joined : ℕ → (ℕ → List ℕ) → List ℕ
joined zero text = []
joined (suc n) text = joined n text ++ text n

-- the lines of the places below n, and after them the total of what they show
abbrev pub items_with_total : ℕ → (ℕ → Shown) → List ℕ
items_with_total n shown = joined n (λ i. item_line (shown i)) ++ total_line (totals n shown)

-- what the line of the item at a place of the chain shows
abbrev pub shown_at : List ℕ → List Item → (ℕ → ℕ) → ℕ → Shown
shown_at order items multiplier i = record { number = get_or order i 0; label = (item_in items i).label; multiplier = multiplier i }

-- the same, in a file that was read, with a list of multipliers
abbrev pub shown_in : List ℕ → List ℕ → ℕ → Shown
shown_in file multipliers = shown_at (order_in (reading file)) (items_in (reading file)) (at multipliers)
