-- What the code works on: a file that was read, the order table that reading it filled, and multipliers. Assumes nothing.
use Rattle.std.specs.Prelude.{◌≡◌, List, ℕ, ◌≤◌, ◌<◌, ℤ, pos, ◌*ℤ◌, length}
use Rattle.integers.specs.Sum.{sum}
use Rattle.training_file.specs.declared.parameters.Parameters.{Parameters}
use Rattle.training_file.specs.Parameters.{ceiling_most, grid_most, records_most}
use Rattle.training_file.specs.Layout.{feature_count}
use Rattle.training_file.specs.Item.{item_in}
use Rattle.reading.specs.Reading.{reading}
use Rattle.reading.specs.Calls.{Tabled, items_in}
use Rattle.dual_problem.specs.Kernel.{FeaturesInRange, kernel_between}
use Rattle.dual_problem.specs.Problem.{Problem, at, problem, y}

-- the problem of a file's items
abbrev pub problem_of : List ℕ → Parameters → Problem
problem_of file p = problem p (items_in (reading file))

-- the kernel value of a list of features with the item at a place
abbrev pub kernel_with : List ℕ → Parameters → List ℤ → ℕ → ℤ
kernel_with file p xs j = kernel_between p xs (item_in (items_in (reading file)) j).features

-- the sum over j of a_j × y_j × k_j
abbrev pub weighed_sum : Problem → (ℕ → ℕ) → (ℕ → ℤ) → ℤ
weighed_sum P a k = sum P.count (λ j. pos (a j) *ℤ y P j *ℤ k j)

-- what the item at a place adds to that sum, with a multiplier and its kernel value with a list of features
abbrev pub added : List ℕ → Parameters → List ℤ → ℕ → ℕ → ℤ
added file p xs a j = pos a *ℤ y (problem_of file p) j *ℤ kernel_with file p xs j

-- the sum over the items of a file, with their kernel values with a list of features
abbrev pub weighed_with : List ℕ → Parameters → List ℤ → (ℕ → ℕ) → ℤ
weighed_with file p xs a = weighed_sum (problem_of file p) a (kernel_with file p xs)

-- the file was read, its n items can be fetched by the table, and their features are in their range
pub record Listed (file order : List ℕ) (n : ℕ) : Type 0 where
  pub few : n ≤ records_most
  pub counted : n ≡ length (items_in (reading file))
  pub tabled : (i : ℕ) → i < n → Tabled file order i
  pub in_range : FeaturesInRange (items_in (reading file))

-- besides, d and S are in their ranges, and there is a multiplier for each item, none above the highest ceiling
pub record MultipliersListed (file order : List ℕ) (n : ℕ) (p : Parameters) (a : List ℕ) : Type 0 where
  pub table : Listed file order n
  pub used : p.used ≤ feature_count
  pub grid : p.grid ≤ grid_most
  pub long : n ≤ length a
  pub small : (i : ℕ) → i < n → at a i ≤ ceiling_most
