-- The totals of the item lines (document 02, request (l)), over the numbers that the lines show: "the count of multipliers above 0, the sum
-- over label +1 and the sum over label −1. These are the sums of the printed lines". Assumes nothing.
use Rattle.std.specs.Prelude.{cond, ℕ, zero, suc, ◌+◌, ltb}
use Rattle.training_file.specs.declared.item.Label.{Label}
use Rattle.training_file.specs.declared.item.Label.TheVariants.{LookedUp, PassedOver}
use Rattle.totals.specs.declared.sums.Shown.{Shown}
use Rattle.totals.specs.declared.sums.Totals.{Totals}

-- 1 for a multiplier above 0, otherwise 0
abbrev pub one_above_zero : ℕ → ℕ
one_above_zero multiplier = cond (ltb 0 multiplier) 1 0

-- what a line adds to the sum over a label: its multiplier where it shows that label, otherwise 0
abbrev pub share : Label → Label → ℕ → ℕ
share LookedUp LookedUp multiplier = multiplier
share LookedUp PassedOver multiplier = 0
share PassedOver LookedUp multiplier = 0
share PassedOver PassedOver multiplier = multiplier

-- "the count of multipliers above 0", in the lines below n
unfoldable pub count_above_zero : ℕ → (ℕ → Shown) → ℕ
count_above_zero zero line = 0
count_above_zero (suc n) line = count_above_zero n line + one_above_zero (line n).multiplier

-- "the sum over label +1 and the sum over label −1", in the lines below n
unfoldable pub sum_over : Label → ℕ → (ℕ → Shown) → ℕ
sum_over label zero line = 0
sum_over label (suc n) line = sum_over label n line + share label (line n).label (line n).multiplier

-- all three of the lines below n
abbrev pub totals : ℕ → (ℕ → Shown) → Totals
totals n line = record { count = count_above_zero n line; plus = sum_over LookedUp n line; minus = sum_over PassedOver n line }

-- the totals of one line
abbrev pub totals_of_line : Shown → Totals
totals_of_line shown =
    record {
      count = one_above_zero shown.multiplier;
      plus = share LookedUp shown.label shown.multiplier;
      minus = share PassedOver shown.label shown.multiplier;
    }

-- the totals of the lines of both
abbrev pub both : Totals → Totals → Totals
both some more = record { count = some.count + more.count; plus = some.plus + more.plus; minus = some.minus + more.minus }
