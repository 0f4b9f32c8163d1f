-- A run on a longer list, such as a lent one: it looks at the first n places alone, and leaves the others as they were. Assumes nothing.
use mathlib.Core.Path.{◌≡◌, refl, sym, ◌∙◌, ap}
use mathlib.Core.Bool.{Bool, true, false, ◌&&◌}
use mathlib.Core.List.{List, ◌++◌}
use mathlib.Core.Option.{Option, none, some, get_or}
use Prim.Native.Nat.{ℕ, zero, suc, ◌*◌, ◌≤◌, ◌<◌, min}
use native.Mathlib.Omega.{arith}
use lib.Dec.{leb}
use lib.IntN.{pos, ◌+ℤ◌, ◌-ℤ◌, ◌*ℤ◌}
use lib.ListN.{length, set, get_or-append}
use lib.Seq.{set-append_left, lt-length-set}
use lib.Signed.{lt_z, le_z}
use Rattle.integers.specs.Extremum.{argmin}
use Rattle.integers.proofs.Laws.Extremum.{lt_z_strict, gt_z_strict, extreme_cong}
use Rattle.dual_problem.specs.Problem.{Problem, gradient, up, low, b_up, b_low, objective, at}
use Rattle.dual_problem.proofs.Laws.Problem.Same.{gradient_cong, objective_cong, up_cong, low_cong, b_up_cong, b_low_cong}
use Rattle.working_pair.specs.Step.{curvature, moves, lowered, raised, moved, fall, rise, room, amount, candidate, first_candidate, working_pair, i_low, i_up}
use Rattle.working_pair.proofs.Laws.Step.{moved_length}
use Rattle.working_pair.proofs.Laws.Step.WorkingPair.{first_candidate_sound, first_candidate_none, first_candidate_complete, first_candidate_absent, working_pair_sound}
use Rattle.smo.specs.Run.{Turn, stops, continues, turn, Outcome, one_step_more, run}
use Rattle.smo.proofs.Laws.Run.{turn_converged, turn_stuck, turn_moves, run_ends, run_spent, run_goes_on, step_long}

-- ---- the step, with `rest` behind the multipliers
module _ (P : Problem) (rest : List ℕ) where
  same_at : (a : List ℕ) → P.count ≤ length a → (k : ℕ) → k < P.count → at (a ++ rest) k ≡ at a k
  same_at a long k l = get_or-append a rest 0 k (omega arith)

  module _ (a : List ℕ) (long : P.count ≤ length a) where
    same : (k : ℕ) → k < P.count → at (a ++ rest) k ≡ at a k
    same = same_at a long

    gradients : (i : ℕ) → gradient P (at (a ++ rest)) i ≡ gradient P (at a) i
    gradients = gradient_cong P (at (a ++ rest)) (at a) same

    moves-append : (i j : ℕ) → moves P (a ++ rest) i j ≡ moves P a i j
    moves-append i j = λ d. lt_z (curvature P i j) (pos 2 *ℤ (gradients i d -ℤ gradients j d))

    candidate-append : (i j : ℕ) → i < P.count → j < P.count → candidate P (a ++ rest) i j ≡ candidate P a i j
    candidate-append i j l m = λ d. low_cong P (at (a ++ rest)) (at a) same i l d && up_cong P (at (a ++ rest)) (at a) same j m d && moves-append i j d

    first_candidate-append : first_candidate P (a ++ rest) ≡ first_candidate P a
    first_candidate-append = by_pair (first_candidate P a) refl
      where
        by_pair : (o : Option (ℕ × ℕ)) → first_candidate P a ≡ o → first_candidate P (a ++ rest) ≡ first_candidate P a
        by_pair none e = first_candidate_absent P (a ++ rest) (λ i j l m. candidate-append i j l m ∙ first_candidate_none P a e i j l m) ∙ sym e
        by_pair (some ij) e =
            let h = first_candidate_sound P a e in
            first_candidate_complete P (a ++ rest)
            (record {
              i_within = h.i_within;
              j_within = h.j_within;
              is_candidate = candidate-append ij.0 ij.1 h.i_within h.j_within ∙ h.is_candidate;
              earlier_i = λ k l m n. candidate-append k l (omega (arith, h.i_within)) n ∙ h.earlier_i k l m n;
              earlier_j = λ l m. candidate-append ij.0 l h.i_within (omega (arith, h.j_within)) ∙ h.earlier_j l m;
            })
            ∙ sym e

    working_pair-append : working_pair P (a ++ rest) ≡ working_pair P a
    unfolding working_pair
    working_pair-append =
        λ d. elim (i_low-append d) as (λ o. Option (ℕ × ℕ)) [
          | none ↦ none
          | some i ↦
              elim (i_up-append d) as (λ o. Option (ℕ × ℕ)) [
                | none ↦ none
                | some j ↦ elim (moves-append i j d) as (λ b. Option (ℕ × ℕ)) [ true ↦ some (i, j) | false ↦ first_candidate-append d ]
              ]
        ]
      where
        i_low-append : i_low P (a ++ rest) ≡ i_low P a
        i_low-append =
            extreme_cong (λ p q. lt_z q p) gt_z_strict P.count (low P (at (a ++ rest))) (low P (at a)) (gradient P (at (a ++ rest))) (gradient P (at a)) (low_cong P (at (a ++ rest)) (at a) same) (λ i l. gradients i)

        i_up-append : i_up P (a ++ rest) ≡ i_up P a
        i_up-append =
            extreme_cong lt_z lt_z_strict P.count (up P (at (a ++ rest))) (up P (at a)) (gradient P (at (a ++ rest))) (gradient P (at a)) (up_cong P (at (a ++ rest)) (at a) same) (λ i l. gradients i)

    module _ (i j : ℕ) (i_within : i < P.count) (j_within : j < P.count) where
      moved-append : (s : ℕ) → moved P (a ++ rest) i j s ≡ moved P a i j s ++ rest
      moved-append s =
          (λ d. set (set (a ++ rest) i (lowered (P.label i) (same i i_within d) s)) j (raised (P.label j) (same j j_within d) s))
          ∙ ap (λ l. set l j (raised (P.label j) (at a j) s)) (set-append_left a rest i (lowered (P.label i) (at a i) s) (omega arith))
          ∙ set-append_left (set a i (lowered (P.label i) (at a i) s)) rest j (raised (P.label j) (at a j) s) (lt-length-set a i (lowered (P.label i) (at a i) s) (omega arith))

      amount-append : amount P (a ++ rest) i j ≡ amount P a i j
      unfolding amount
      amount-append =
          (λ d. get_or (argmin (suc (room-append d)) (leb 1) (λ s. objective P (at (moved P (a ++ rest) i j s)))) 0)
          ∙ ap (λ o. get_or o 0)
          (extreme_cong lt_z lt_z_strict (suc (room P a i j)) (leb 1) (leb 1) (λ s. objective P (at (moved P (a ++ rest) i j s))) (λ s. objective P (at (moved P a i j s))) (λ s l. refl) (λ s l. after s))
        where
          room-append : room P (a ++ rest) i j ≡ room P a i j
          room-append = λ d. min (fall (P.label i) (same i i_within d) (P.ceiling i)) (rise (P.label j) (same j j_within d) (P.ceiling j))

          after : (s : ℕ) → objective P (at (moved P (a ++ rest) i j s)) ≡ objective P (at (moved P a i j s))
          after s =
              ap (λ l. objective P (at l)) (moved-append s)
              ∙ objective_cong P (at (moved P a i j s ++ rest)) (at (moved P a i j s)) (same_at (moved P a i j s) (omega (arith, moved_length P a i j s)))

  -- ---- the run
  abbrev with_rest : Outcome → Outcome
  with_rest o = record { ending = o.ending; steps = o.steps; multipliers = o.multipliers ++ rest }

  append_turn : Turn → Turn
  append_turn (stops e) = stops e
  append_turn (continues b) = continues (b ++ rest)

  module _ (t : ℕ) where
    turn-append : (a : List ℕ) → P.count ≤ length a → turn P t (a ++ rest) ≡ append_turn (turn P t a)
    unfolding append_turn
    turn-append a long = by_gap (le_z (b_low P (at a)) (b_up P (at a) +ℤ pos (2 * t))) refl
      where
        gap_same : le_z (b_low P (at (a ++ rest))) (b_up P (at (a ++ rest)) +ℤ pos (2 * t)) ≡ le_z (b_low P (at a)) (b_up P (at a) +ℤ pos (2 * t))
        gap_same = λ d. le_z (b_low_cong P (at (a ++ rest)) (at a) (same a long) d) (b_up_cong P (at (a ++ rest)) (at a) (same a long) d +ℤ pos (2 * t))

        by_pair : le_z (b_low P (at a)) (b_up P (at a) +ℤ pos (2 * t)) ≡ false → (o : Option (ℕ × ℕ)) → working_pair P a ≡ o → turn P t (a ++ rest) ≡ append_turn (turn P t a)
        by_pair e none f = turn_stuck P t (a ++ rest) (gap_same ∙ e) (working_pair-append a long ∙ f) ∙ ap append_turn (sym (turn_stuck P t a e f))
        by_pair e (some ij) f =
            let c = working_pair_sound P a f in
            turn_moves P t (a ++ rest) (gap_same ∙ e) (working_pair-append a long ∙ f)
            ∙ ap continues
            (ap (moved P (a ++ rest) ij.0 ij.1) (amount-append a long ij.0 ij.1 c.i_within c.j_within)
            ∙ moved-append a long ij.0 ij.1 c.i_within c.j_within (amount P a ij.0 ij.1))
            ∙ ap append_turn (sym (turn_moves P t a e f))

        by_gap : (b : Bool) → le_z (b_low P (at a)) (b_up P (at a) +ℤ pos (2 * t)) ≡ b → turn P t (a ++ rest) ≡ append_turn (turn P t a)
        by_gap true e = turn_converged P t (a ++ rest) (gap_same ∙ e) ∙ ap append_turn (sym (turn_converged P t a e))
        by_gap false e = by_pair e (working_pair P a) refl

    -- a run with `rest` behind the multipliers is the run without, with `rest` behind what it leaves
    pub run-append : (limit : ℕ) (a : List ℕ) → P.count ≤ length a → run P t limit (a ++ rest) ≡ record { ending = (run P t limit a).ending; steps = (run P t limit a).steps; multipliers = (run P t limit a).multipliers ++ rest }
    unfolding append_turn
    run-append zero a long = by_turn (turn P t a) refl
      where
        by_turn : (n : Turn) → turn P t a ≡ n → run P t 0 (a ++ rest) ≡ with_rest (run P t 0 a)
        by_turn (stops e) h = run_ends P t 0 (a ++ rest) (turn-append a long ∙ ap append_turn h) ∙ ap with_rest (sym (run_ends P t 0 a h))
        by_turn (continues b) h = run_spent P t (a ++ rest) (turn-append a long ∙ ap append_turn h) ∙ ap with_rest (sym (run_spent P t a h))
    run-append (suc limit) a long = by_turn (turn P t a) refl (run-append limit)
      where
        by_turn : (n : Turn) → turn P t a ≡ n → ((b : List ℕ) → P.count ≤ length b → run P t limit (b ++ rest) ≡ with_rest (run P t limit b)) → run P t (suc limit) (a ++ rest) ≡ with_rest (run P t (suc limit) a)
        by_turn (stops e) h ih = run_ends P t (suc limit) (a ++ rest) (turn-append a long ∙ ap append_turn h) ∙ ap with_rest (sym (run_ends P t (suc limit) a h))
        by_turn (continues b) h ih =
            run_goes_on P t limit (a ++ rest) (turn-append a long ∙ ap append_turn h) ∙ ap one_step_more (ih b (step_long P t a h long))
            ∙ ap with_rest (sym (run_goes_on P t limit a h))
