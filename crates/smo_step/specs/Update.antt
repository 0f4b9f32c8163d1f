-- What a step writes: the two multipliers, and G of each item by what it was before. That this is the move, and G of the moved multipliers,
-- is in proofs/Laws/Update.antt. Assumes nothing.
use Rattle.std.specs.Prelude.{List, ℕ, ◌≤◌, ◌<◌, ℤ, pos, nat_abs, ◌+ℤ◌, ◌-ℤ◌, ◌*ℤ◌, length, get_or}
use Rattle.integers.specs.Written.{written}
use Rattle.training_file.specs.Layout.{feature_count}
use Rattle.training_file.specs.Parameters.{ceiling_most}
use Rattle.dual_problem.specs.Size.{gradient_most}
use Rattle.dual_problem.specs.Kernel.{kernel_between}
use Rattle.dual_problem.specs.declared.problem.FileProblem.{FileProblem}
use Rattle.dual_problem.specs.Problem.{Problem, gradient, at}
use Rattle.dual_problem.specs.Given.{count_in, item_at}
use Rattle.working_pair.specs.Step.{moved, amount}

-- the multipliers after a step of the pair (i, j)
abbrev pub stepped : Problem → List ℕ → ℕ → ℕ → List ℕ
stepped P a i j = moved P a i j (amount P a i j)

-- a list whose first n places have G of those multipliers
abbrev pub stepped_gradient : Problem → List ℕ → ℕ → ℕ → ℕ → List ℤ → List ℤ
stepped_gradient P a i j n g = written n (gradient P (at (stepped P a i j))) g

-- G of an item after a move by s, from its kernel values with the items at j and at i
abbrev pub shifted : ℤ → ℕ → ℤ → ℤ → ℤ
shifted g s kj ki = g +ℤ pos s *ℤ (kj -ℤ ki)

-- the same for the item at place k, where the item with the features xs moved down and the one with zs up
abbrev pub updated : FileProblem → List ℤ → List ℤ → ℕ → List ℤ → ℕ → ℤ
updated f xs zs s g k = shifted (get_or g k (pos 0)) s (kernel_between f.parameters zs (item_at f k).features) (kernel_between f.parameters xs (item_at f k).features)

-- a list that holds a G for each item, none larger than a G can be, and an amount within the highest ceiling
pub record Updatable (f : FileProblem) (g : List ℤ) (s : ℕ) : Type 0 where
  pub used : f.parameters.used ≤ feature_count
  pub filled : count_in f ≤ length g
  pub sized : (k : ℕ) → k < count_in f → nat_abs (get_or g k (pos 0)) ≤ gradient_most
  pub small : s ≤ ceiling_most
