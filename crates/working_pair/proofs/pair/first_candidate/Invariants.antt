-- `working_pair::pair::first_candidate` meets its contract. The loop's invariant: no pair with one of the first i places is a candidate. Assumes
-- nothing.
use Rattle.std.proofs.Common.{◌≡◌, ℕ, ◌<◌, List, false}
use Rattle.dual_problem.specs.Problem.{Problem}
use Rattle.dual_problem.specs.Given.{problem_in}
use Rattle.working_pair.specs.Step.{candidate}
use Rattle.working_pair.proofs.pair.first_candidate.Given as goal

-- no pair with the place k is a candidate
abbrev pub Alone : Problem → List ℕ → ℕ → Type 0
Alone P a k = (l : ℕ) → l < P.count → candidate P a k l ≡ false

abbrev pub invariant-loop-i : goal.invariant-loop-i
invariant-loop-i l = (k : ℕ) → k < l.i → Alone (problem_in l.standing.problem.now) l.standing.multipliers.now k
