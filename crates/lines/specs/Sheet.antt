-- The printed sheet by its bytes alone, as it is read and added up by hand. What the line of an item shows stands in three fields, record
-- number, sign and multiplier; the last line adds up the item lines (document 02, request (l)). Assumes nothing.
use Rattle.std.specs.Prelude.{◌≡◌, cond, List, [], ◌∷◌, ◌++◌, ℕ, ◌+◌, eqb, ltb, get_or}
use Rattle.text.specs.Decimal.{value}
use Rattle.text.specs.Parts.{parts}
use Rattle.lines.specs.Lines.{total_text}

-- a field of a line: fields lie between spaces, and the first is field 0
abbrev pub field_in : List ℕ → ℕ → List ℕ
field_in line k = get_or (parts 32 line) k []

-- the number that a field says
abbrev pub number_in : List ℕ → ℕ → ℕ
number_in line k = value 0 (field_in line k)

-- how many of these lines show a multiplier above 0
unfoldable pub count_read : List (List ℕ) → ℕ
count_read [] = 0
count_read (line ∷ more) = cond (ltb 0 (number_in line 2)) 1 0 + count_read more

-- the sum of the multipliers that the lines with a sign show
unfoldable pub sum_read : ℕ → List (List ℕ) → ℕ
sum_read sign [] = 0
sum_read sign (line ∷ more) = cond (eqb (get_or (field_in line 1) 0 0) sign) (number_in line 2) 0 + sum_read sign more

-- "After its item lines the training program prints `total`, the count of multipliers above 0, the sum over label +1 and the sum over label
-- −1. These are the sums of the printed lines, and the two sums are equal": the lines of a sheet, each of which ends with byte 10, are line
-- one, the item lines and the total, and nothing comes after; 43 is `+` and 45 is `-`
pub record AddsUp (sheet : List ℕ) : Type 0 where
  pub first : List ℕ
  pub items : List (List ℕ)
  pub total : List ℕ
  pub lines : parts 10 sheet ≡ first ∷ (items ++ (total ∷ [] ∷ []))
  pub word : field_in total 0 ≡ total_text
  pub count : number_in total 1 ≡ count_read items
  pub plus : number_in total 2 ≡ sum_read 43 items
  pub minus : number_in total 3 ≡ sum_read 45 items
  pub equal : number_in total 2 ≡ number_in total 3
