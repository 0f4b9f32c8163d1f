-- The problem of a read file as the code passes it: what the definitions make of its parts. Assumes nothing.
use Rattle.std.specs.Prelude.{◌≡◌, List, ℕ, ◌≤◌, ◌<◌, length, Result, Ok, Err}
use Rattle.training_file.specs.declared.item.Item.{Item}
use Rattle.training_file.specs.declared.item.Label.{Label}
use Rattle.training_file.specs.declared.refusal.Refusal.{Refusal}
use Rattle.training_file.specs.Layout.{feature_count}
use Rattle.training_file.specs.Parameters.{ceiling_most, grid_most}
use Rattle.training_file.specs.Item.{item_in}
use Rattle.reading.specs.Reading.{accepted, reading, refused}
use Rattle.reading.specs.Calls.{items_in}
use Rattle.dual_problem.specs.declared.problem.FileProblem.{FileProblem}
use Rattle.dual_problem.specs.Problem.{Problem, at}
use Rattle.dual_problem.specs.FileProblem.{problem_of}

-- the problem itself
abbrev pub problem_in : FileProblem → Problem
problem_in f = problem_of f.file.now f.parameters

-- how many items its order has, which is how many the file has
abbrev pub count_in : FileProblem → ℕ
count_in f = length f.order.now

-- the item at a place, and its label
abbrev pub item_at : FileProblem → ℕ → Item
item_at f place = item_in (items_in (reading f.file.now)) place

abbrev pub label_at : FileProblem → ℕ → Label
label_at f place = (item_at f place).label

-- d and S are in their ranges, and there is a multiplier for each item, none above the highest ceiling
pub record MultipliersFit (f : FileProblem) (a : List ℕ) : Type 0 where
  pub used : f.parameters.used ≤ feature_count
  pub grid : f.parameters.grid ≤ grid_most
  pub long : count_in f ≤ length a
  pub small : (i : ℕ) → i < count_in f → at a i ≤ ceiling_most

-- what reading a file comes to: the refusal, or the problem with the parameters and the order that the file has
abbrev pub ReadAs : List ℕ → Result FileProblem Refusal → Type 0
ReadAs file (Err why) = reading file ≡ refused why
ReadAs file (Ok f) = (f.file.now ≡ file) × (reading file ≡ accepted f.parameters f.order.now (items_in (reading file)))
