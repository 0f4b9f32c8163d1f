-- What a run's outcome says: what each ending means, that the steps counted are the moves made, and an outcome after k steps more. That it
-- holds of every run is in proofs/Laws/Run.antt. Assumes nothing.
use Rattle.std.specs.Prelude.{◌≡◌, ◌↔◌, List, ℕ, suc, ◌+◌, ◌*◌, ◌≤◌, ◌<◌, ℤ}
use Rattle.dual_problem.specs.Problem.{BoundedDistance, Problem, b_low, b_up, gap, at}
use Rattle.working_pair.specs.Step.{Candidate}
use Rattle.working_pair.specs.Move.{NoMoveLowers}
use Rattle.smo.specs.declared.ending.Ending.{Ending}
use Rattle.smo.specs.declared.ending.Ending.TheVariants.{Converged, Stuck, Spent}
use Rattle.smo.specs.Run.{continues, turn, Outcome}

-- Demand 3: the gap of the two thresholds answered "passes twice the tolerance"
abbrev pub GapPasses : ℕ → ℤ → ℤ → Type 0
GapPasses t lower upper = 2 * t < gap lower upper

-- what an ending means, with the multipliers a left and the thresholds answered after so many steps of those allowed
abbrev pub EndingMeans : Problem → ℕ → ℕ → ℕ → ℤ → ℤ → List ℕ → Ending → Type 0
EndingMeans P t limit steps lower upper a Converged = gap lower upper ≤ 2 * t
EndingMeans P t limit steps lower upper a Stuck = GapPasses t lower upper × NoMoveLowers P (at a)
EndingMeans P t limit steps lower upper a Spent = (steps ≡ limit) × GapPasses t lower upper × (i : ℕ) × (j : ℕ) × Candidate P a i j

-- the same of an outcome, with the thresholds of its multipliers
abbrev pub OutcomeMeans : Problem → ℕ → ℕ → Outcome → Ending → Type 0
OutcomeMeans P t limit o = EndingMeans P t limit o.steps (b_low P (at o.multipliers)) (b_up P (at o.multipliers)) o.multipliers

abbrev pub OutcomeGapPasses : Problem → ℕ → Outcome → Type 0
OutcomeGapPasses P t o = GapPasses t (b_low P (at o.multipliers)) (b_up P (at o.multipliers))

-- Demand 3, and what the ending means, of the outcome of a run that may take `limit` steps
pub record Sound (P : Problem) (t limit : ℕ) (o : Outcome) : Type 0 where
  pub bounded : BoundedDistance P (b_low P (at o.multipliers)) (b_up P (at o.multipliers)) (at o.multipliers)
  pub in_limit : o.steps ≤ limit
  pub means : OutcomeMeans P t limit o o.ending
  pub stuck_exactly : (o.ending ≡ Stuck) ↔ (OutcomeGapPasses P t o × NoMoveLowers P (at o.multipliers))

-- k steps, each as `turn` says, lead from a to b
pub data Steps (P : Problem) (t : ℕ) : List ℕ → ℕ → List ℕ → Type 0 where
  no_step : {a : List ℕ} → Steps P t a 0 a
  step : {a b c : List ℕ} {k : ℕ} → turn P t a ≡ continues b → Steps P t b k c → Steps P t a (suc k) c

-- an outcome with k steps more, taken before it
abbrev pub more_steps : ℕ → Outcome → Outcome
more_steps k o = record { ending = o.ending; steps = k + o.steps; multipliers = o.multipliers }
