-- `smo::run::run` meets its contract. The loop's invariant: the steps taken so far, and the run from the present multipliers with what is
-- left of the limit, come to the whole run's outcome; the lists are in the state of a step. Assumes nothing.
use mathlib.Core.List.{List}
use mathlib.Core.Path.{◌≡◌, refl, sym, ◌∙◌, ap}
use Prim.Native.Nat.{ℕ, ◌+◌, ◌-◌, ◌≤◌, ◌<◌}
use native.Mathlib.Nat.{sub-zero, zero-add}
use native.Mathlib.Omega.{arith}
use lib.IntN.{ℤ, pos}
use lib.ListN.{length, get_or}
use Rattle.integers.specs.Written.{written}
use Rattle.integers.proofs.Laws.Written.{written_same, written_over}
use Rattle.training_file.specs.Parameters.{Ranges}
use Rattle.dual_problem.specs.declared.problem.FileProblem.{FileProblem}
use Rattle.dual_problem.specs.Problem.{Problem, gradient as gradient_of, at}
use Rattle.dual_problem.specs.Given.{count_in, problem_in}
use Rattle.thresholds.specs.Extremes.{best_value}
use Rattle.thresholds.proofs.Laws.Extremes.{low_value, up_value}
use Rattle.working_pair.specs.Step.{Candidate}
use Rattle.working_pair.proofs.Laws.Step.{moved_length}
use Rattle.smo_step.specs.Update.{stepped}
use Rattle.smo_step.proofs.Laws.Update.{step_state}
use Rattle.smo.specs.declared.ending.Ending.{Ending}
use Rattle.smo.specs.declared.run.Trained.{Trained}
use Rattle.smo.specs.Run.{Outcome, turn, continues, run as run_of}
use Rattle.smo.specs.Run.Meaning.{more_steps}
use Rattle.smo.specs.Answers.{left_whole, trained_of, trained_with}
use Rattle.smo.proofs.Laws.Answers.{decision_ends, decision_moves, loop_ends, loop_spent, loop_steps}
use Rattle.smo.proofs.run.run.Invariants.{Running}
use Rattle.smo.proofs.run.run.Goals as goal
use Rattle.thresholds.specs.declared.extremes.Extremes.{Extremes}
use Rattle.thresholds.specs.Extremes.{extremes_in}
use Rattle.smo_step.specs.Update.{stepped_gradient}
use Rattle.smo.specs.declared.ending.Ending.TheVariants.{Spent}
use Rattle.std.specs.declared.ops.ControlFlow.TheVariants.{Break, Continue}
use Rattle.std.specs.ControlFlow.{break_value}
use Rattle.std.proofs.Common.{unwrap_or}
use Rattle.std.proofs.Common.{rules}
use Rattle.smo.specs.Run.{Decision, decision}

-- no step more
none_more : (o : Outcome) → more_steps 0 o ≡ o
none_more o = λ q. record { ending = o.ending; steps = zero-add o.steps q; multipliers = o.multipliers }

-- ---- a turn, up to the decision: k steps have been taken, a and g are the lists
module _ {f : FileProblem} {limit : ℕ} {a₀ : List ℕ} {g₀ : List ℤ} {a : List ℕ} {g : List ℤ} {k : ℕ} (running : Running f limit a₀ g₀ a g k) where
  P : Problem
  P = problem_in f

  whole : Outcome
  whole = run_of P f.parameters.tolerance limit a₀

  kept : (i : ℕ) → i < P.count → get_or g i (pos 0) ≡ gradient_of P (at a) i
  unfolding P
  kept i l = running.state.kept i (omega (arith, f.listed.counted))

  -- what is left, where the run ends here
  module _ {found : Extremes} (found_is : found ≡ extremes_in f a g) (e : Ending) (r : Trained) (h : r ≡ trained_with e k found) (stop : whole ≡ record { ending = e; steps = k; multipliers = a }) where
    answered : r ≡ trained_of P whole
    unfolding P
    answered =
        h
        ∙ (λ q. record {
          ending = e;
          steps = k;
          lower = ((λ q. best_value (found_is q).low) ∙ low_value P (at a) (λ i. get_or g i (pos 0)) kept) q;
          upper = ((λ q. best_value (found_is q).up) ∙ up_value P (at a) (λ i. get_or g i (pos 0)) kept) q;
        })
        ∙ sym (ap (trained_of P) stop)

    left : record { trained = r; multipliers = a; gradient = g } ≡ left_whole P (count_in f) whole g₀
    unfolding P
    left =
        λ q. record {
          trained = answered q;
          multipliers = sym (λ i. (stop i).multipliers) q;
          gradient = (running.filled ∙ sym (λ i. written (count_in f) (gradient_of P (at (stop i).multipliers)) g₀)) q;
        }

  -- where the decision is to end
  ended : {found : Extremes} {r : Trained} {e : Ending} → decision P f.parameters.tolerance a ≡ Break e → found ≡ extremes_in f a g → r ≡ trained_with e k found
      → record { trained = r; multipliers = a; gradient = g } ≡ left_whole P (count_in f) whole g₀
  unfolding P whole
  ended {r = r} {e = e} told found_is h = left found_is e r h (loop_ends P f.parameters.tolerance limit k a running.so_far (decision_ends P f.parameters.tolerance a told))

  -- where the limit is reached
  at_limit : (d : Decision) {found : Extremes} {r : Trained} → decision P f.parameters.tolerance a ≡ d → k ≡ limit → found ≡ extremes_in f a g → r ≡ trained_with (unwrap_or (break_value d) Spent) k found
      → record { trained = r; multipliers = a; gradient = g } ≡ left_whole P (count_in f) whole g₀
  unfolding P whole
  at_limit (Break e) told all found_is h = ended told found_is h
  at_limit (Continue ij) {r = r} told all found_is h = left found_is Spent r h (loop_spent P f.parameters.tolerance limit k a running.so_far all (decision_moves P f.parameters.tolerance a told).0)

  -- where a pair moves
  module _ {i j : ℕ} (told : decision P f.parameters.tolerance a ≡ Continue (i, j)) where
    moving : (turn P f.parameters.tolerance a ≡ continues (stepped P a i j)) × Candidate P a i j
    unfolding P
    moving = decision_moves P f.parameters.tolerance a told

    -- after the step
    goes_on : Ranges f.parameters → {a' : List ℕ} {g' : List ℤ} → count_in f ≤ length g₀ → k < limit → a' ≡ stepped P a i j → g' ≡ stepped_gradient P a i j (count_in f) g → Running f limit a₀ g₀ a' g' (k + 1)
    unfolding P
    goes_on ranges filled below a_is g_is =
        record {
          state = step_state running.state moving.1 ranges a_is g_is;
          so_far = loop_steps P f.parameters.tolerance limit k a running.so_far below moving.0 ∙ ap (λ b. more_steps (k + 1) (run_of P f.parameters.tolerance (limit - (k + 1)) b)) (sym a_is);
          long = ap length a_is ∙ moved_length P a _ _ _ ∙ running.long;
          filled =
              g_is
              ∙ ap (written (count_in f) (gradient_of P (at (stepped P a _ _)))) running.filled
              ∙ written_over (count_in f) _ (gradient_of P (at a)) g₀ (pos 0) filled
              ∙ ap (λ b. written (count_in f) (gradient_of P (at b)) g₀) (sym a_is);
        }

pub loop-steps-init : goal.loop-steps-init
loop-steps-init c =
    let P = problem_in c.args.problem.now in
    let t = c.args.problem.now.parameters.tolerance in
    record {
      state = c.requires.0;
      so_far = ap (λ l. run_of P t l c.args.multipliers.now) (sym (sub-zero c.args.limit)) ∙ sym (none_more (run_of P t (c.args.limit - 0) c.args.multipliers.now));
      long = refl;
      filled = written_same (count_in c.args.problem.now) (gradient_of P (at c.args.multipliers.now)) c.args.gradient.now (pos 0) c.requires.0.filled c.requires.0.kept;
    }

pub returns-in-Break : goal.returns-in-Break
unfolding P whole
returns-in-Break c = ended c.loop-steps.invariant (sym c.in-Break.ensures) c.find_extremes-found.ensures c.new.ensures

pub take_step-requires : goal.take_step-requires
unfolding P
take_step-requires c = (c.loop-steps.invariant.state, c.requires.1, (moving c.loop-steps.invariant (sym c.in-Continue.ensures)).1)

pub loop-steps-preserved : goal.loop-steps-preserved
unfolding P
loop-steps-preserved c = goes_on c.loop-steps.invariant (sym c.in-Continue.ensures) c.requires.1 c.requires.0.filled (omega arith) c.take_step.ensures.multipliers c.take_step.ensures.gradient

pub returns : goal.returns
unfolding P whole
returns c =
    at_limit c.loop-steps.invariant c.decide-decision.result (sym c.decide-decision.ensures) (omega arith) c.find_extremes-found-2.ensures
    (search rules)
