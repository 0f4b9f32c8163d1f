-- Document 01, "The step": the run. It is defined once, with a limit on its steps; training is the run from zeros limited by the
-- budget. Assumes nothing.
pub mod Meaning
use Rattle.std.specs.Prelude.{Bool, true, false, List, ℕ, zero, suc, ◌*◌, pos, ◌+ℤ◌, replicate, Option, None, Some}
use Rattle.std.specs.Int.Signed.{le_z}
use Rattle.std.specs.declared.ops.ControlFlow.{ControlFlow}
use Rattle.std.specs.declared.ops.ControlFlow.TheVariants.{Break, Continue}
use Rattle.dual_problem.specs.Problem.{Problem, b_up, b_low, at}
use Rattle.working_pair.specs.Step.{moved, amount, working_pair}
use Rattle.working_pair.specs.Pair.{pair_of}
use Rattle.smo.specs.declared.ending.Ending.{Ending}
use Rattle.smo.specs.declared.ending.Ending.TheVariants.{Converged, Stuck, Spent}

-- what the run does next: it breaks off with an ending, or continues with a pair of places
abbrev pub Decision : Type 0
Decision = ControlFlow Ending (ℕ × ℕ)

-- "1. if b_low ≤ b_up + 2 × t, the ending is converged; 2. if no pair moves, it is stuck"; else the working pair moves
abbrev pub decided : Bool → Option (ℕ × ℕ) → Decision
decided true found = Break Converged
decided false None = Break Stuck
decided false (Some ij) = Continue ij

-- what is done at the multipliers a
abbrev pub decision : Problem → ℕ → List ℕ → Decision
decision P t a = decided (le_z (b_low P (at a)) (b_up P (at a) +ℤ pos (2 * t))) (pair_of (working_pair P a))

-- what comes of it: training ends, or a move leads to the next multipliers
pub data Turn : Type 0 where
  stops : Ending → Turn
  continues : List ℕ → Turn

abbrev pub turn_by : Problem → List ℕ → Decision → Turn
turn_by P a (Break ending) = stops ending
turn_by P a (Continue ij) = continues (moved P a ij.0 ij.1 (amount P a ij.0 ij.1))

unfoldable pub turn : Problem → ℕ → List ℕ → Turn
turn P t a = turn_by P a (decision P t a)

-- how a run ended, the steps that it took, and the multipliers that it left
pub record Outcome : Type 0 where
  pub ending : Ending
  pub steps : ℕ
  pub multipliers : List ℕ

abbrev pub one_step_more : Outcome → Outcome
one_step_more o = record { ending = o.ending; steps = suc o.steps; multipliers = o.multipliers }

-- the run from the multipliers a that may take `limit` steps: "3. if the steps taken equal the budget, it is spent"
unfoldable pub run : Problem → ℕ → ℕ → List ℕ → Outcome
run P t zero a =
    elim (turn P t a) [
      | stops ending ↦ record { ending = ending; steps = 0; multipliers = a }
      | continues b ↦ record { ending = Spent; steps = 0; multipliers = a }
    ]
run P t (suc limit) a =
    elim (turn P t a) [
      | stops e ↦ record { ending = e; steps = 0; multipliers = a }
      | continues b ↦ one_step_more (run P t limit b)
    ]

-- "Start with all multipliers 0 and 0 steps."
abbrev pub zeros : ℕ → List ℕ
zeros n = replicate n 0

abbrev pub run_from_zeros : Problem → ℕ → ℕ → Outcome
run_from_zeros P t budget = run P t budget (zeros P.count)
