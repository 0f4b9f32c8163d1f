-- What the contracts on choosing the working pair cite: what is held of a place, its partners, and the answers as the code's options.
-- Assumes nothing.
use Rattle.std.specs.Prelude.{◌≡◌, Bool, ◌&&◌, List, ℕ, ◌<◌, ℤ, Option, None, Some}
use Rattle.std.proofs.Math.Option as place
use Rattle.integers.specs.Extremum.{first}
use Rattle.dual_problem.specs.declared.problem.FileProblem.{FileProblem}
use Rattle.dual_problem.specs.Problem.{Problem, up, at}
use Rattle.dual_problem.specs.Given.{count_in, item_at, problem_in}
use Rattle.working_pair.specs.Step.{moves}

-- what a search holds of the item at i while j runs: its features and K_ii
pub record Held (f : FileProblem) (i : ℕ) (xs : List ℤ) (k : ℤ) : Type 0 where
  pub within : i < count_in f
  pub features : xs ≡ (item_at f i).features
  pub kernel : k ≡ (problem_in f).kernel i i

-- whether j is in the up set and i moves with it
abbrev pub partners : Problem → List ℕ → ℕ → ℕ → Bool
partners P a i j = up P (at a) j && moves P a i j

-- the first j of the up set with which i moves: for an i of the low set, that of the first candidate with i
abbrev pub first_partner : Problem → List ℕ → ℕ → place.Option ℕ
first_partner P a i = first P.count (partners P a i)

-- a pair that was found, and a partner
abbrev pub pair_of : place.Option (ℕ × ℕ) → Option (ℕ × ℕ)
pair_of place.none = None
pair_of (place.some ij) = Some ij

abbrev pub partner_of : place.Option ℕ → Option ℕ
partner_of place.none = None
partner_of (place.some j) = Some j
