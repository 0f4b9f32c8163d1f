-- Laws of the totals: one line more, how large they get, and why the two sums of feasible multipliers are equal. Assumes nothing.
use mathlib.Core.Path.{◌≡◌, refl, sym, ◌∙◌}
use mathlib.Core.List.{[], ◌∷◌}
use Prim.Native.Nat.{ℕ, zero, suc, ◌+◌, ◌*◌, ◌^◌, ◌≤◌, ◌<◌}
use native.Mathlib.Nat.{le_refl}
use native.Mathlib.Omega.{arith}
use lib.Dec.{ltb}
use lib.IntN.{pos, negsuc, ◌+ℤ◌, ◌-ℤ◌, ◌*ℤ◌}
use Rattle.integers.proofs.Laws.Linear.{integer, -ℤ-parts, ≡_to_parts}
use Rattle.integers.proofs.Laws.Solver.{con, ◌⊕◌, ◌⊗◌, ◌⊖◌, solve, x₀, x₁, x₂, x₃}
use Rattle.integers.specs.Sum.{sum}
use Rattle.integers.proofs.Laws.Truth.{chose_either}
use Rattle.training_file.specs.declared.item.Label.{Label}
use Rattle.training_file.specs.declared.item.Label.TheVariants.{LookedUp, PassedOver}
use Rattle.training_file.specs.Parameters.{records_most}
use Rattle.dual_problem.specs.Problem.{sign}
use Rattle.totals.specs.declared.sums.Shown.{Shown}
use Rattle.totals.specs.Totals.{both, count_above_zero, one_above_zero, share, sum_over, totals, totals_of_line}

-- one line more
pub totals_next : (n : ℕ) (line : ℕ → Shown) → both (totals n line) (totals_of_line (line n)) ≡ totals (suc n) line
unfolding count_above_zero sum_over
totals_next n line = refl

-- lines that show the same have the same totals
pub totals_cong : (n : ℕ) (f g : ℕ → Shown) → ((i : ℕ) → i < n → f i ≡ g i) → totals n f ≡ totals n g
unfolding count_above_zero sum_over
totals_cong zero f g h = refl
totals_cong (suc n) f g h = λ k. both (totals_cong n f g (λ i l. h i (omega arith)) k) (totals_of_line (h n (le_refl (suc n)) k))

-- no more multipliers are above 0 than there are lines
pub count_most : (n : ℕ) (line : ℕ → Shown) → count_above_zero n line ≤ n
unfolding count_above_zero
count_most zero line = omega arith
count_most (suc n) line =
    let one : one_above_zero (line n).multiplier ≤ 1 = chose_either (λ k. k ≤ 1) (ltb 0 (line n).multiplier) {x = 1} {y = 0} (omega arith) (omega arith) in
    omega (arith, count_most n line, one)

-- no line adds more than its multiplier
share_most : (label shown : Label) (multiplier : ℕ) → share label shown multiplier ≤ multiplier
share_most LookedUp LookedUp multiplier = le_refl multiplier
share_most LookedUp PassedOver multiplier = omega arith
share_most PassedOver LookedUp multiplier = omega arith
share_most PassedOver PassedOver multiplier = le_refl multiplier

pub sum_most : (label : Label) (n : ℕ) (line : ℕ → Shown) {most : ℕ} → ((i : ℕ) → i < n → (line i).multiplier ≤ most) → sum_over label n line ≤ n * most
unfolding sum_over
sum_most label zero line h = omega arith
sum_most label (suc n) line {most} h = omega (arith, sum_most label n line (λ i l. h i (omega arith)), share_most label (line n).label (line n).multiplier, h n (le_refl (suc n)))

-- with at most 256 lines, of multipliers of 32 bits, no total passes 64 bits
pub next_fits : (n : ℕ) (line : ℕ → Shown) → n < records_most → ((i : ℕ) → (line i).multiplier < 2 ^ 32)
    → ((totals n line).count + (totals_of_line (line n)).count < 2 ^ 64)
    × ((totals n line).plus + (totals_of_line (line n)).plus < 2 ^ 64)
    × ((totals n line).minus + (totals_of_line (line n)).minus < 2 ^ 64)
unfolding count_above_zero sum_over
next_fits n line few small =
    (omega (arith, count_most (suc n) line), omega (arith, bounded LookedUp), omega (arith, bounded PassedOver))
  where
    bounded : (label : Label) → sum_over label (suc n) line ≤ suc n * 2 ^ 32
    bounded label = sum_most label (suc n) line (λ i l. omega (arith, small i))

-- ---- the two sums, and the sum of a_i × y_i
share_signed : (label : Label) (multiplier : ℕ) → pos multiplier *ℤ sign label ≡ pos (share LookedUp label multiplier) -ℤ pos (share PassedOver label multiplier)
share_signed LookedUp multiplier = solve (pos multiplier ∷ []) (x₀ ⊗ con (pos 1)) (x₀ ⊖ con (pos 0)) refl
share_signed PassedOver multiplier = solve (pos multiplier ∷ []) (x₀ ⊗ con (negsuc 0)) (con (pos 0) ⊖ x₀) refl

sums_signed : (n : ℕ) (line : ℕ → Shown) → sum n (λ i. pos (line i).multiplier *ℤ sign (line i).label) ≡ pos (sum_over LookedUp n line) -ℤ pos (sum_over PassedOver n line)
unfolding sum sum_over
sums_signed zero line = refl
sums_signed (suc n) line =
    (λ k. sums_signed n line k +ℤ share_signed (line n).label (line n).multiplier k)
    ∙ solve (pos (sum_over LookedUp n line) ∷ pos (sum_over PassedOver n line) ∷ pos (share LookedUp (line n).label (line n).multiplier) ∷ pos (share PassedOver (line n).label (line n).multiplier) ∷ [])
    ((x₀ ⊖ x₁) ⊕ (x₂ ⊖ x₃)) ((x₀ ⊕ x₂) ⊖ (x₁ ⊕ x₃)) refl

-- where the sum of a_i × y_i is 0 the two sums are equal
pub sums_equal : (n : ℕ) (line : ℕ → Shown) → sum n (λ i. pos (line i).multiplier *ℤ sign (line i).label) ≡ pos 0 → sum_over LookedUp n line ≡ sum_over PassedOver n line
sums_equal n line balanced =
    let difference : pos (sum_over LookedUp n line) -ℤ pos (sum_over PassedOver n line) ≡ pos 0 = sym (sums_signed n line) ∙ balanced in
    omega (arith, integer, ≡_to_parts difference, -ℤ-parts (pos (sum_over LookedUp n line)) (pos (sum_over PassedOver n line)))
