-- Laws of the answers: a decision is what the rule does next, and a loop that counts its steps comes to the run's outcome. Assumes
-- nothing.
use mathlib.Core.Path.{◌≡◌, refl, ◌∙◌, ap}
use mathlib.Core.Bool.{Bool, true, false}
use mathlib.Core.Option.{Option, none, some}
use mathlib.Core.List.{List}
use Prim.Native.Nat.{ℕ, suc, ◌+◌, ◌-◌, ◌*◌, ◌<◌}
use native.Mathlib.Nat.{add-zero}
use native.Mathlib.Omega.{arith}
use lib.IntN.{pos, ◌+ℤ◌}
use lib.Signed.{le_z}
use Rattle.dual_problem.specs.Problem.{Problem, b_up, b_low, at}
use Rattle.working_pair.specs.Step.{Candidate, working_pair}
use Rattle.working_pair.proofs.Laws.Step.WorkingPair.{working_pair_sound}
use Rattle.working_pair.specs.Pair.{pair_of}
use Rattle.smo_step.specs.Update.{stepped}
use Rattle.smo.specs.declared.ending.Ending.{Ending}
use Rattle.smo.specs.declared.ending.Ending.TheVariants.{Spent}
use Rattle.std.specs.declared.ops.ControlFlow.TheVariants.{Break, Continue}
use Rattle.smo.specs.Run.{Outcome, decided, decision, turn, turn_by, stops, continues, run}
use Rattle.smo.specs.Run.Meaning.{more_steps}
use Rattle.smo.proofs.Laws.Run.{run_ends, run_spent, run_goes_on}

module _ (P : Problem) (t : ℕ) (a : List ℕ) where
  pub decision_ends : {e : Ending} → decision P t a ≡ Break e → turn P t a ≡ stops e
  unfolding turn
  decision_ends h = ap (turn_by P a) h

  pub decision_moves : {i j : ℕ} → decision P t a ≡ Continue (i, j) → (turn P t a ≡ continues (stepped P a i j)) × Candidate P a i j
  unfolding turn
  decision_moves {i} {j} h = (ap (turn_by P a) h, by (le_z (b_low P (at a)) (b_up P (at a) +ℤ pos (2 * t))) (working_pair P a) refl h)
    where
      by : (x : Bool) (w : Option (ℕ × ℕ)) → working_pair P a ≡ w → decided x (pair_of w) ≡ Continue (i, j) → Candidate P a i j
      by true w f q = cc
      by false none f q = cc
      by false (some ij) f q = let at_i : ij.0 ≡ i = cc in let at_j : ij.1 ≡ j = cc in working_pair_sound P a (f ∙ (λ k. some (at_i k, at_j k)))

-- ---- a loop that has taken k of its steps and is at a, where o is the outcome that it is to come to
module _ (P : Problem) (t limit k : ℕ) (a : List ℕ) {o : Outcome} (so_far : o ≡ more_steps k (run P t (limit - k) a)) where
  pub loop_ends : {e : Ending} → turn P t a ≡ stops e → o ≡ record { ending = e; steps = k; multipliers = a }
  loop_ends {e} h = so_far ∙ ap (more_steps k) (run_ends P t (limit - k) a h) ∙ (λ d. record { ending = e; steps = add-zero k d; multipliers = a })

  pub loop_spent : {b : List ℕ} → k ≡ limit → turn P t a ≡ continues b → o ≡ record { ending = Spent; steps = k; multipliers = a }
  loop_spent e h =
      let z : limit - k ≡ 0 = omega arith in
      so_far ∙ ap (λ l. more_steps k (run P t l a)) z ∙ ap (more_steps k) (run_spent P t a h) ∙ (λ d. record { ending = Spent; steps = add-zero k d; multipliers = a })

  pub loop_steps : {b : List ℕ} → k < limit → turn P t a ≡ continues b → o ≡ more_steps (k + 1) (run P t (limit - (k + 1)) b)
  loop_steps {b} l h =
      let z : limit - k ≡ suc (limit - (k + 1)) = omega arith in
      let r = run P t (limit - (k + 1)) b in
      let s : k + suc r.steps ≡ k + 1 + r.steps = omega arith in
      so_far ∙ ap (λ l. more_steps k (run P t l a)) z ∙ ap (more_steps k) (run_goes_on P t (limit - (k + 1)) a h)
      ∙ (λ d. record { ending = r.ending; steps = s d; multipliers = r.multipliers })
