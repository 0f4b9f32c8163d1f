-- Laws of training: a run on the lent lists, cleared, is the run of the rule, and demand 3 holds of what it leaves. Assumes nothing.
use mathlib.Core.Path.{◌≡◌, refl, sym, ◌∙◌, ap, subst}
use mathlib.Core.Bool.{Bool, true, false, cond, ◌&&◌}
use mathlib.Core.List.{List, ◌++◌}
use Prim.Native.Nat.{ℕ, ◌≤◌, ◌<◌}
use native.Mathlib.Omega.{arith}
use borrow.Author.Tests.{leb-true}
use lib.Dec.{leb}
use lib.IntN.{ℤ}
use lib.ListN.{length, get_or-replicate, take, drop}
use lib.Seq.{take-append_seam}
use Rattle.integers.proofs.Laws.Truth.{&&_left}
use Rattle.integers.specs.Written.{written}
use Rattle.integers.proofs.Laws.Written.{written_at, written_cong, written_front}
use Rattle.training_file.specs.declared.parameters.Parameters.{Parameters}
use Rattle.training_file.specs.declared.item.Item.{Item}
use Rattle.training_file.specs.declared.refusal.Refusal.TheVariants as refusal
use Rattle.reading.specs.Reading.{accepted, reading}
use Rattle.reading.proofs.Laws.Calls.{file_either}
use Rattle.dual_problem.specs.Problem.{Problem, Feasible, problem, gradient, at}
use Rattle.dual_problem.proofs.Laws.Problem.{problem_gram}
use Rattle.dual_problem.proofs.Laws.Problem.Same.{gradient_cong, b_up_cong, b_low_cong}
use Rattle.dual_problem.proofs.Laws.Problem.Zeros.{zeros_feasible}
use Rattle.dual_problem.proofs.Laws.FileProblem.Read.{features_in_range, labels_present}
use Rattle.smo.specs.Run.{run, run_from_zeros, zeros}
use Rattle.smo.specs.Run.Meaning.{Sound}
use Rattle.smo.proofs.Laws.Run.{zeros-length, run_from_zeros-length, run_from_zeros_sound}
use Rattle.smo.proofs.Laws.Run.Append.{run-append}
use Rattle.smo.specs.Answers.{trained_of}
use Rattle.training.specs.Train.{ResultQuality, TrainingLeft, TrainingQuality, ended_with, unchanged, train_file}

module _ (P : Problem) (l : List ℕ) (long : P.count ≤ length l) where
  -- the list with 0 at the first n places
  abbrev cleared : List ℕ
  cleared = written P.count (λ (i : ℕ). 0) l

  pub cleared_at : (i : ℕ) → i < P.count → at (written P.count (λ (i : ℕ). 0) l) i ≡ 0
  cleared_at i k = written_at P.count (λ i. 0) l 0 long i k

  pub cleared_feasible : Feasible P (at (written P.count (λ (i : ℕ). 0) l))
  cleared_feasible = zeros_feasible P (at cleared) cleared_at

  -- a list of n in the first places of l
  front : (a : List ℕ) → length a ≡ P.count → written P.count (at a) l ≡ a ++ drop P.count l
  front a e = ap (λ n. written n (at a) l) (sym e) ∙ written_front a l 0 (omega arith) ∙ ap (λ n. a ++ drop n l) e

  module _ (t budget : ℕ) where
    pub cleared_run : run P t budget (written P.count (λ (i : ℕ). 0) l) ≡ record { ending = (run_from_zeros P t budget).ending; steps = (run_from_zeros P t budget).steps; multipliers = written P.count (at (run_from_zeros P t budget).multipliers) l }
    cleared_run =
        ap (run P t budget) (written_cong P.count (λ i. 0) (at (zeros P.count)) l (λ i k. sym (get_or-replicate P.count i 0 0 k)) ∙ front (zeros P.count) (zeros-length P.count))
        ∙ run-append P (drop P.count l) t budget (zeros P.count) (omega (arith, zeros-length P.count))
        ∙ (λ d. record { ending = (run_from_zeros P t budget).ending; steps = (run_from_zeros P t budget).steps; multipliers = sym (front (run_from_zeros P t budget).multipliers (run_from_zeros-length P t budget)) d })

    left_at : (i : ℕ) → i < P.count → at (written P.count (at (run_from_zeros P t budget).multipliers) l) i ≡ at (run_from_zeros P t budget).multipliers i
    left_at i k = written_at P.count (at (run_from_zeros P t budget).multipliers) l 0 long i k

    -- the answer and the list of G are those of the rule
    pub cleared_answer : trained_of P (run P t budget (written P.count (λ (i : ℕ). 0) l)) ≡ trained_of P (run_from_zeros P t budget)
    cleared_answer =
        ap (trained_of P) cleared_run
        ∙ (λ d. record {
          ending = (run_from_zeros P t budget).ending;
          steps = (run_from_zeros P t budget).steps;
          lower = b_low_cong P (at (written P.count (at (run_from_zeros P t budget).multipliers) l)) (at (run_from_zeros P t budget).multipliers) left_at d;
          upper = b_up_cong P (at (written P.count (at (run_from_zeros P t budget).multipliers) l)) (at (run_from_zeros P t budget).multipliers) left_at d;
        })

    pub cleared_gradient : (n : ℕ) (g : List ℤ) → written n (gradient P (at (run P t budget (written P.count (λ (i : ℕ). 0) l)).multipliers)) g ≡ written n (gradient P (at (run_from_zeros P t budget).multipliers)) g
    cleared_gradient n g =
        ap (λ x. written n (gradient P (at x.multipliers)) g) cleared_run
        ∙ written_cong n (gradient P (at (written P.count (at (run_from_zeros P t budget).multipliers) l))) (gradient P (at (run_from_zeros P t budget).multipliers)) g (λ i k. gradient_cong P (at (written P.count (at (run_from_zeros P t budget).multipliers) l)) (at (run_from_zeros P t budget).multipliers) left_at i)

    -- the first n places of the list left are the multipliers of the rule
    left_front : take P.count (written P.count (at (run_from_zeros P t budget).multipliers) l) ≡ (run_from_zeros P t budget).multipliers
    left_front = ap (take P.count) (front (run_from_zeros P t budget).multipliers (run_from_zeros-length P t budget))
        ∙ ap (λ n. take n ((run_from_zeros P t budget).multipliers ++ drop P.count l)) (sym (run_from_zeros-length P t budget)) ∙ take-append_seam (run_from_zeros P t budget).multipliers (drop P.count l)

-- ---- demand 3
-- what training leaves, for a file that is accepted
pub accepted_sound : (file : List ℕ) (p : Parameters) (order : List ℕ) (items : List Item) → reading file ≡ accepted p order items
    → Sound (problem p items) p.tolerance p.budget (run_from_zeros (problem p items) p.tolerance p.budget)
accepted_sound file p order items e =
    run_from_zeros_sound (problem p items) (problem_gram p items (features_in_range file p order items e)) (labels_present file p order items e) p.tolerance p.budget

pub training_quality : (file a : List ℕ) (g : List ℤ) → TrainingQuality (reading file) (train_file file a g).answer (train_file file a g).multipliers
training_quality file a g =
    file_either _ _ file (λ r (left : TrainingLeft). TrainingQuality r left.answer left.multipliers) (λ why e. tt)
    (λ p order items e. by p order items e (leb (length items) (length a) && leb (length items) (length g)) refl)
  where
    by : (p : Parameters) (order : List ℕ) (items : List Item) → reading file ≡ accepted p order items
        → (x : Bool) → leb (length items) (length a) && leb (length items) (length g) ≡ x
        → let left = cond x (ended_with (problem p items) (run_from_zeros (problem p items) p.tolerance p.budget) a g) (unchanged refusal.ListLength a g) in
        TrainingQuality (accepted p order items) left.answer left.multipliers
    by p order items r false e = tt
    by p order items r true e =
        let P = problem p items in
        let s = accepted_sound file p order items r in
        let long : length items ≤ length a = leb-true (length items) (length a) (&&_left (leb (length items) (length a)) (leb (length items) (length g)) e) in
        subst (ResultQuality p P (trained_of P (run_from_zeros P p.tolerance p.budget))) (sym (left_front P a long p.tolerance p.budget))
        (record {
          bounded = s.bounded;
          in_budget = s.in_limit;
          means = s.means;
          stuck_exactly = s.stuck_exactly;
        })
