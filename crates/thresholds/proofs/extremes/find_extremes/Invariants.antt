-- `thresholds::extremes::find_extremes` meets its contract. The loop's invariant: `low` and `up` are the places of the first ones that
-- attain the thresholds. Assumes nothing.
use Rattle.std.proofs.Common.{◌≡◌, List, ℕ, ℤ, pos, get_or}
use Rattle.integers.specs.Extremum.{argmin, argmax}
use Rattle.dual_problem.specs.Problem.{up, low, at}
use Rattle.dual_problem.specs.Given.{problem_in}
use Rattle.thresholds.specs.Extremes.{best_of}
use Rattle.thresholds.proofs.extremes.find_extremes.Given as goal

-- G at a place of the list
abbrev pub value : List ℤ → ℕ → ℤ
value gradient i = get_or gradient i (pos 0)

abbrev pub invariant-loop-place : goal.invariant-loop-place
invariant-loop-place l =
    let g = value l.gradient in
    (l.low ≡ best_of g (argmax l.place (low (problem_in l.problem) (at l.multipliers)) g))
    × (l.up ≡ best_of g (argmin l.place (up (problem_in l.problem) (at l.multipliers)) g))
