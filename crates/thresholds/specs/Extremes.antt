-- The places that attain the thresholds, as the code finds them in one pass, and both thresholds. Assumes nothing.
use Rattle.std.specs.Prelude.{List, ℕ, ℤ, pos, get_or, Option, None, Some}
use Rattle.std.proofs.Math.Option as place
use Rattle.integers.specs.Extremum.{argmin, argmax}
use Rattle.dual_problem.specs.declared.problem.FileProblem.{FileProblem}
use Rattle.dual_problem.specs.Problem.{Problem, up, low, b_up, b_low, at}
use Rattle.dual_problem.specs.Given.{problem_in}
use Rattle.thresholds.specs.declared.extremes.Best.{Best}
use Rattle.thresholds.specs.declared.extremes.Extremes.{Extremes}
use Rattle.thresholds.specs.declared.extremes.Sets.{Sets}
use Rattle.thresholds.specs.declared.extremes.Thresholds.{Thresholds}

-- a place that was found, with its value
abbrev pub best_of : (ℕ → ℤ) → place.Option ℕ → Option Best
best_of f place.none = None
best_of f (place.some k) = Some (record { place = k; value = f k })

-- its value, 0 where none was found
abbrev pub best_value : Option Best → ℤ
best_value None = pos 0
best_value (Some best) = best.value

-- which sets the item at a place is in
abbrev pub sets_of : Problem → (ℕ → ℕ) → ℕ → Sets
sets_of P a i = record { low = low P a i; up = up P a i }

-- where each threshold is attained: the lowest place among equals
abbrev pub extremes_of : Problem → (ℕ → ℕ) → (ℕ → ℤ) → Extremes
extremes_of P a g = record { low = best_of g (argmax P.count (low P a) g); up = best_of g (argmin P.count (up P a) g) }

-- the same for the items of a file, with lists of multipliers and of G
abbrev pub extremes_in : FileProblem → List ℕ → List ℤ → Extremes
extremes_in f a g = extremes_of (problem_in f) (at a) (λ i. get_or g i (pos 0))

-- both thresholds of multipliers
abbrev pub thresholds_of : Problem → (ℕ → ℕ) → Thresholds
thresholds_of P a = record { lower = b_low P a; upper = b_up P a }

-- the values of the places that attain them
abbrev pub thresholds_in : Extremes → Thresholds
thresholds_in found = record { lower = best_value found.low; upper = best_value found.up }
