-- Document 01, "Grid definitions", after report CD-99-14, formulas 2, 5 and 8; the whole-number grid and the finer grids are document 01's.
-- Its c is here "the item's own ceiling" (document 02, request (f)). A position of document 01 counts from 1, a place here from 0. Assumes
-- nothing.
use Rattle.std.specs.Prelude.{◌≡◌, Bool, true, cond, List, ℕ, ◌*◌, ◌/◌, ◌≤◌, ◌<◌, eqb, ltb, ℤ, pos, negsuc, ◌+ℤ◌, ◌-ℤ◌, ◌*ℤ◌, length, get_or, ◌≤ℤ◌}
use Rattle.integers.specs.Sum.{sum}
use Rattle.integers.specs.Extremum.{least, greatest}
use Rattle.training_file.specs.declared.parameters.Parameters.{Parameters}
use Rattle.training_file.specs.declared.item.Item.{Item}
use Rattle.training_file.specs.declared.item.Label.{Label}
use Rattle.training_file.specs.declared.item.Label.TheVariants.{LookedUp, PassedOver}
use Rattle.training_file.specs.Item.{opposite, item_in}
use Rattle.dual_problem.specs.Kernel.{kernel_between}

-- what training works on: the number of items, their labels, their kernel values, S, and the ceiling of each item
pub record Problem : Type 0 where
  pub count : ℕ
  pub label : ℕ → Label
  pub kernel : ℕ → ℕ → ℤ
  pub grid : ℕ
  pub ceiling : ℕ → ℕ

-- "1 looked up, y = +1; 2 passed over, y = −1"
abbrev pub sign : Label → ℤ
sign LookedUp = pos 1
sign PassedOver = negsuc 0

-- y of the item at a place
abbrev pub y : Problem → ℕ → ℤ
y P i = sign (P.label i)

-- a_i, the multiplier at a place of a list
abbrev pub at : List ℕ → ℕ → ℕ
at a i = get_or a i 0

-- "Feasible: 0 ≤ a_i ≤ c for each item, and the sum of a_i × y_i is 0."
pub record Feasible (P : Problem) (a : ℕ → ℕ) : Type 0 where
  pub within : (i : ℕ) → i < P.count → a i ≤ P.ceiling i
  pub balanced : sum P.count (λ i. pos (a i) *ℤ y P i) ≡ pos 0

-- "G_i = sum over j of a_j × y_j × K_ij, minus S × y_i."
unfoldable pub gradient : Problem → (ℕ → ℕ) → ℕ → ℤ
gradient P a i = sum P.count (λ j. pos (a j) *ℤ y P j *ℤ P.kernel i j) -ℤ pos P.grid *ℤ y P i

-- "Up set: y = +1 with a < c, or y = −1 with a > 0."
abbrev pub in_up : Label → ℕ → ℕ → Bool
in_up LookedUp a c = ltb a c
in_up PassedOver a c = ltb 0 a

-- "Low set: y = +1 with a > 0, or y = −1 with a < c": the same of the opposite label
abbrev pub in_low : Label → ℕ → ℕ → Bool
in_low label a c = in_up (opposite label) a c

abbrev pub up : Problem → (ℕ → ℕ) → ℕ → Bool
up P a i = in_up (P.label i) (a i) (P.ceiling i)

abbrev pub low : Problem → (ℕ → ℕ) → ℕ → Bool
low P a i = in_low (P.label i) (a i) (P.ceiling i)

-- "The upper threshold (b_up) is the least G over the up set, the lower one (b_low) the greatest over the low set."
abbrev pub b_up : Problem → (ℕ → ℕ) → ℤ
b_up P a = least P.count (up P a) (gradient P a)

abbrev pub b_low : Problem → (ℕ → ℕ) → ℤ
b_low P a = greatest P.count (low P a) (gradient P a)

-- "both labels present": each label has an item, of a ceiling of 1 or more. With feasible multipliers "neither set is empty" then
-- (`up_inhabited`, `low_inhabited`)
abbrev pub LabelsPresent : Problem → Type 0
LabelsPresent P = (label : Label) → (i : ℕ) × (i < P.count) × (P.label i ≡ label) × (1 ≤ P.ceiling i)

-- each threshold is the G of an item of its set, and no G of that set is beyond it
pub record ThresholdsAttained (P : Problem) (a : ℕ → ℕ) (lower upper : ℤ) : Type 0 where
  pub lower_attained : (k : ℕ) × (k < P.count) × (low P a k ≡ true) × (lower ≡ gradient P a k)
  pub lower_greatest : (i : ℕ) → i < P.count → low P a i ≡ true → gradient P a i ≤ℤ lower
  pub upper_attained : (k : ℕ) × (k < P.count) × (up P a k ≡ true) × (upper ≡ gradient P a k)
  pub upper_least : (i : ℕ) → i < P.count → up P a i ≡ true → upper ≤ℤ gradient P a i

-- the sum over i, j of v_i × v_j × y_i × y_j × K_ij
unfoldable pub double_sum : Problem → (ℕ → ℕ) → ℤ
double_sum P v = sum P.count (λ i. sum P.count (λ j. pos (v i) *ℤ pos (v j) *ℤ y P i *ℤ y P j *ℤ P.kernel i j))

-- "Objective D = sum over i, j of a_i × a_j × y_i × y_j × K_ij, minus 2 × S × the sum of a_i."
unfoldable pub objective : Problem → (ℕ → ℕ) → ℤ
objective P a = double_sum P a -ℤ pos 2 *ℤ pos P.grid *ℤ sum P.count (λ i. pos (a i))

-- "Finer grid, for a whole m' ≥ 1: whole numbers v with 0 ≤ v_i ≤ m' × c and sum of v_i × y_i equal to 0.": "v_i is at most m' times" the
-- item's own ceiling
pub record Finer (P : Problem) (m : ℕ) (v : ℕ → ℕ) : Type 0 where
  pub within : (i : ℕ) → i < P.count → v i ≤ m * P.ceiling i
  pub balanced : sum P.count (λ i. pos (v i) *ℤ y P i) ≡ pos 0

-- "Its objective is the double sum over v minus 2 × S × m' × the sum of v_i."
unfoldable pub finer_objective : Problem → ℕ → (ℕ → ℕ) → ℤ
finer_objective P m v = double_sum P v -ℤ pos 2 *ℤ pos P.grid *ℤ pos m *ℤ sum P.count (λ i. pos (v i))

-- Demand 3: "The gap is the lower threshold answered minus the upper one answered, or zero if that is negative."
abbrev pub not_below_zero : ℤ → ℕ
not_below_zero (pos n) = n
not_below_zero (negsuc n) = 0

abbrev pub gap : ℤ → ℤ → ℕ
gap lower upper = not_below_zero (lower -ℤ upper)

-- Document 02, request (f): "The distance from the best objective is now at most the gap times the sum of all items' ceilings"
abbrev pub bound : ℕ → Problem → ℤ
bound g P = pos g *ℤ sum P.count (λ i. pos (P.ceiling i))

-- "where both labels' ceilings are equal": all items have the ceiling c
abbrev pub EqualCeilings : Problem → ℕ → Type 0
EqualCeilings P c = (i : ℕ) → i < P.count → P.ceiling i ≡ c

-- "demand 3's bound stays": "2 times the gap, times the ceiling, times half the item count rounded down."
abbrev pub equal_bound : ℕ → ℕ → ℕ → ℤ
equal_bound g c n = pos (2 * g * c * (n / 2))

-- Demand 3: no feasible multipliers, on this grid or on any finer one, have an objective below D minus the distance: "the objective of
-- v plus m' × m' times the bound is at least m' × m' times D"
pub record WithinDistance (distance : ℤ) (P : Problem) (a : ℕ → ℕ) : Type 0 where
  pub this_grid : (v : ℕ → ℕ) → Feasible P v → objective P a ≤ℤ (objective P v +ℤ distance)
  pub finer_grids : (m : ℕ) → 1 ≤ m → (v : ℕ → ℕ) → Finer P m v → (pos (m * m) *ℤ objective P a) ≤ℤ (finer_objective P m v +ℤ pos (m * m) *ℤ distance)

-- Demand 3 of multipliers a with the thresholds answered: they are feasible, the thresholds are attained, and no feasible multipliers, of
-- this grid or of a finer one, have an objective below theirs minus the bound
pub record BoundedDistance (P : Problem) (lower upper : ℤ) (a : ℕ → ℕ) : Type 0 where
  pub feasible : Feasible P a
  pub thresholds : ThresholdsAttained P a lower upper
  pub always : WithinDistance (bound (gap lower upper) P) P a
  pub equal_ceilings : (c : ℕ) → EqualCeilings P c → WithinDistance (equal_bound (gap lower upper) c P.count) P a

-- ---- the problem of a training file

-- the ceiling of a label. Document 02, request (f): "The field c serves label +1", and of the ceiling for label −1 "0 means the same as c"
abbrev pub ceiling_of : Parameters → Label → ℕ
ceiling_of p LookedUp = p.ceiling
ceiling_of p PassedOver = cond (eqb p.second_ceiling 0) p.ceiling p.second_ceiling

abbrev pub problem : Parameters → List Item → Problem
problem p items =
    record {
      count = length items;
      label = λ i. (item_in items i).label;
      kernel = λ i j. kernel_between p (item_in items i).features (item_in items j).features;
      grid = p.grid;
      ceiling = λ i. ceiling_of p (item_in items i).label;
    }
