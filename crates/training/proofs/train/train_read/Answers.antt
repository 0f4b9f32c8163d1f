-- `training::train::train_read` meets its contract: a run from the cleared list is training. Assumes nothing.
use mathlib.Core.List.{List, ◌++◌}
use mathlib.Core.Path.{◌≡◌, sym, ◌∙◌, ap, subst, subst₂}
use Prim.Native.Nat.{ℕ, ◌≤◌}
use native.Mathlib.Omega.{arith}
use Rattle.std.proofs.lemmas.List.{length-take-le}
use lib.IntN.{pos}
use lib.ListN.{length, take, drop, replicate, length-replicate, get_or-replicate}
use Rattle.integers.specs.Written.{written}
use Rattle.integers.proofs.Laws.Written.{length_written, written_at, written_cong, written_front, written_over}
use Rattle.training_file.specs.Parameters.{Ranges}
use Rattle.dual_problem.specs.Problem.{Problem, gradient as gradient_of, at}
use Rattle.dual_problem.specs.declared.problem.FileProblem.{FileProblem}
use Rattle.dual_problem.specs.Given.{MultipliersFit, count_in, problem_in}
use Rattle.working_pair.specs.State.{State}
use Rattle.smo.specs.Run.{run as run_of, run_from_zeros}
use Rattle.smo.specs.Answers.{trained_of}
use Rattle.training.proofs.Laws.Train.{cleared_at, cleared_feasible, cleared_run, cleared_answer, cleared_gradient}
use Rattle.training.proofs.train.train_read.Goals as goal
use lib.IntN.{ℤ}
use Rattle.smo.specs.Answers.{RunLeft, run_from}
use Rattle.training.specs.Train.{train_from}

module _ (f : FileProblem) (ranges : Ranges f.parameters) (m : List ℕ) (l : List ℤ) (long_m : count_in f ≤ length m) (long_l : count_in f ≤ length l) where
  abbrev P : Problem
  P = problem_in f

  abbrev n : ℕ
  n = count_in f

  all_items : n ≡ P.count
  all_items = f.listed.counted

  long : P.count ≤ length m
  long = omega (arith, long_m, all_items)

  -- the multipliers once they are cleared
  zeros : List ℕ
  zeros = written P.count (λ (i : ℕ). 0) m

  zeros_fit : MultipliersFit f zeros
  unfolding zeros
  zeros_fit =
      record {
        used = ranges.used_greatest;
        grid = ranges.grid_greatest;
        long = omega (arith, long_m, length_written P.count (λ (i : ℕ). 0) m);
        small = λ i l. omega (arith, cleared_at P m long i (omega (arith, all_items)));
      }

  -- the lists of the calls
  module _ {cleared : List ℕ} (clear : cleared ≡ written n (λ (i : ℕ). 0) m) where
    cleared_is : cleared ≡ zeros
    unfolding zeros
    cleared_is = clear ∙ ap (λ n. written n (λ (i : ℕ). 0) m) all_items

    cleared_fit : MultipliersFit f cleared
    cleared_fit = subst (MultipliersFit f) (sym cleared_is) zeros_fit

    module _ {filled : List ℤ} (fill : filled ≡ written n (gradient_of (problem_in f) (at cleared)) l) where
      filled_is : filled ≡ written n (gradient_of P (at zeros)) l
      filled_is = fill ∙ ap (λ a. written n (gradient_of P (at a)) l) cleared_is

      state : State f cleared filled
      unfolding zeros
      state =
          subst₂ (State f) (sym cleared_is) (sym filled_is)
          (record {
            fit = zeros_fit;
            feasible = cleared_feasible P m long;
            filled = omega (arith, long_l, length_written n (gradient_of P (at zeros)) l);
            kept = written_at n (gradient_of P (at zeros)) l (pos 0) long_l;
          })

      left : {r : RunLeft} → r ≡ run_from f f.parameters.budget cleared filled → r ≡ train_from f m l
      unfolding zeros
      left ran =
          let t = f.parameters.tolerance in
          let budget = f.parameters.budget in
          let multipliers =
          (λ k. (run_of P t budget (cleared_is k)).multipliers) ∙ (λ k. (cleared_run P m long t budget k).multipliers)
          ∙ ap (λ n. written n (at (run_from_zeros P t budget).multipliers) m) (sym all_items) in
          let gradient =
          (λ k. written n (gradient_of P (at (run_of P t budget (cleared_is k)).multipliers)) (filled_is k))
          ∙ written_over n (gradient_of P (at (run_of P t budget zeros).multipliers)) (gradient_of P (at zeros)) l (pos 0) long_l
          ∙ cleared_gradient P m long t budget n l in
          ran
          ∙ (λ k. record {
            trained = (ap (λ a. trained_of P (run_of P t budget a)) cleared_is ∙ cleared_answer P m long t budget) k;
            multipliers = multipliers k;
            gradient = gradient k;
          })

-- the first places are filled with 0
filled_front : (m : List ℕ) {n k : ℕ} {front : List ℕ} → k ≡ n → n ≤ length m → front ≡ replicate (length (take k m)) 0 → front ++ drop k m ≡ written n (λ (i : ℕ). 0) m
filled_front m {n} {k} {front} counted long e =
    let size : length (take k m) ≡ n = length-take-le k m (omega arith) ∙ counted in
    let zeros_size : length (replicate {A = ℕ} n 0) ≡ n = length-replicate {A = ℕ} n 0 in
    (λ t. (e ∙ ap (λ j. replicate j 0) size) t ++ drop ((counted ∙ sym zeros_size) t) m)
    ∙ sym (written_front (replicate n 0) m 0 (omega arith))
    ∙ ap (λ j. written j (at (replicate n 0)) m) zeros_size
    ∙ written_cong n (at (replicate n 0)) (λ i. 0) m (λ i l. get_or-replicate n i 0 0 l)

pub fill_gradient-requires : goal.fill_gradient-requires
fill_gradient-requires c =
    let a = c.args in
    let clear = filled_front a.multipliers.now c.count.ensures c.requires.1 (c.fill.ensures.after (λ y h. h)) in
    (cleared_fit a.problem.now c.requires.0 a.multipliers.now a.gradient.now c.requires.1 c.requires.2 clear, c.requires.2)

pub run-requires : goal.run-requires
run-requires c =
    let a = c.args in
    let clear = filled_front a.multipliers.now c.count.ensures c.requires.1 (c.fill.ensures.after (λ y h. h)) in
    (state a.problem.now c.requires.0 a.multipliers.now a.gradient.now c.requires.1 c.requires.2 clear c.fill_gradient.ensures, c.requires.0)

pub returns : goal.returns
returns c =
    let a = c.args in
    let clear = filled_front a.multipliers.now c.count.ensures c.requires.1 (c.fill.ensures.after (λ y h. h)) in
    left a.problem.now c.requires.0 a.multipliers.now a.gradient.now c.requires.1 c.requires.2 clear c.fill_gradient.ensures c.run.ensures
