-- Document 01: what a move of two multipliers is, for multipliers given as a function of the place. Assumes nothing.
use Rattle.std.specs.Prelude.{◌≡◌, ℕ, ◌<◌, pos, ◌+ℤ◌, ◌-ℤ◌, ◌*ℤ◌, ◌<ℤ◌}
use Rattle.dual_problem.specs.Problem.{Problem, Feasible, y, objective}

-- "A move by s lowers a_i × y_i by s and raises a_j × y_j by s": b is what such a move makes of a
pub record Move (P : Problem) (a b : ℕ → ℕ) (i j s : ℕ) : Type 0 where
  pub i_within : i < P.count
  pub j_within : j < P.count
  pub apart : ¬ (i ≡ j)
  pub lowers : pos (b i) *ℤ y P i ≡ pos (a i) *ℤ y P i -ℤ pos s
  pub raises : pos (b j) *ℤ y P j ≡ pos (a j) *ℤ y P j +ℤ pos s
  pub keeps : (k : ℕ) → k < P.count → ¬ (k ≡ i) → ¬ (k ≡ j) → b k ≡ a k

-- "Move of two multipliers, in demand 3: from feasible a to feasible multipliers on the grid that differ from a at exactly two
-- positions, by any amount": those of b differ from a's at i and at j. That a is feasible is said where this is used.
pub record TwoMove (P : Problem) (a b : ℕ → ℕ) (i j : ℕ) : Type 0 where
  pub i_within : i < P.count
  pub j_within : j < P.count
  pub apart : ¬ (i ≡ j)
  pub feasible : Feasible P b
  pub i_differs : ¬ (b i ≡ a i)
  pub j_differs : ¬ (b j ≡ a j)
  pub keeps : (k : ℕ) → k < P.count → ¬ (k ≡ i) → ¬ (k ≡ j) → b k ≡ a k

-- "It lowers the objective if D is lower after it." No such move does
abbrev pub NoMoveLowers : Problem → (ℕ → ℕ) → Type 0
NoMoveLowers P a = (b : ℕ → ℕ) (i j : ℕ) → TwoMove P a b i j → ¬ (objective P b <ℤ objective P a)
