-- Laws of the working pair: the pair taken is a candidate, and none is taken only where there is no candidate; the pair taken where
-- the first one tried does not move is the first candidate by rising i, then rising j. Assumes nothing.
use mathlib.Core.Path.{◌≡◌, refl, sym, ap, subst}
use mathlib.Core.Bool.{Bool, true, false}
use mathlib.Core.List.{List}
use mathlib.Core.Option.{Option, none, some}
use Prim.Native.Nat.{ℕ, ◌<◌}
use lib.Signed.{lt_z}
use Rattle.integers.proofs.Laws.Truth.{clash, not_true_false}
use Rattle.integers.specs.Extremum.{first, value_at}
use Rattle.integers.proofs.Laws.Extremum.{Extreme, lt_z_strict, gt_z_strict, extreme_sound, extreme_none}
use Rattle.integers.proofs.Laws.Extremum.First.{First, first_sound, first_none, first_complete, first_absent}
use Rattle.dual_problem.specs.Problem.{Problem, gradient, up, low, b_up, b_low, at}
use Rattle.working_pair.specs.Step.{Candidate, candidate, first_candidate, i_low, i_up, moves, some_place, working_pair}
use Rattle.working_pair.proofs.Laws.Step.{candidate_made, candidate_low, candidate_up}
use Rattle.working_pair.proofs.Laws.Step.Row.{row, in_row, row_false, row_true, at_place, no_place}

-- ---- the pair tried first: its gradients are the thresholds
pub b_low_attained : (P : Problem) (a : List ℕ) {i : ℕ} → i_low P a ≡ some i → b_low P (at a) ≡ gradient P (at a) i
b_low_attained P a e = ap (value_at (gradient P (at a))) e

pub b_up_attained : (P : Problem) (a : List ℕ) {j : ℕ} → i_up P a ≡ some j → b_up P (at a) ≡ gradient P (at a) j
b_up_attained P a e = ap (value_at (gradient P (at a))) e

-- ---- candidates
-- (i, j) is a candidate, and no pair before it is one
pub record FirstCandidate (P : Problem) (a : List ℕ) (i j : ℕ) : Type 0 where
  pub i_within : i < P.count
  pub j_within : j < P.count
  pub is_candidate : candidate P a i j ≡ true
  pub earlier_i : (k l : ℕ) → k < i → l < P.count → candidate P a k l ≡ false
  pub earlier_j : (l : ℕ) → l < j → candidate P a i l ≡ false

module _ (P : Problem) (a : List ℕ) where
  -- what was found: the first candidate, or there is none
  Found : Option (ℕ × ℕ) → Type 0
  Found none = (i j : ℕ) → i < P.count → j < P.count → candidate P a i j ≡ false
  Found (some ij) = FirstCandidate P a ij.0 ij.1

  found_at : (i j : ℕ) → First P.count (in_row P a) i → First P.count (candidate P a i) j → FirstCandidate P a i j
  unfolding row
  found_at i j h g =
      record {
        i_within = h.within;
        j_within = g.within;
        is_candidate = g.passes;
        earlier_i = λ k l m n. first_none (candidate P a k) (row_false P a k (h.before k m)) l n;
        earlier_j = g.before;
      }

  found : Found (first_candidate P a)
  unfolding Found row
  found = by_row (first P.count (in_row P a)) refl
    where
      by_row : (o : Option ℕ) → first P.count (in_row P a) ≡ o → Found (first_candidate P a)
      by_row none e = subst Found (sym (no_place P a e)) (λ i j l m. first_none (candidate P a i) (row_false P a i (first_none (in_row P a) e i l)) j m)
      by_row (some i) e =
          let h = first_sound (in_row P a) e in
          let r = row_true P a i h.passes in
          subst Found (sym (at_place P a e r.1)) (found_at i r.0 h (first_sound (candidate P a i) r.1))

  -- the pair found is the first candidate, and none is found exactly where there is no candidate
  pub first_candidate_sound : {i j : ℕ} → first_candidate P a ≡ some (i, j) → FirstCandidate P a i j
  unfolding Found
  first_candidate_sound e = subst Found e found

  pub first_candidate_none : first_candidate P a ≡ none → (i j : ℕ) → i < P.count → j < P.count → candidate P a i j ≡ false
  unfolding Found
  first_candidate_none e = subst Found e found

  pub first_candidate_complete : {i j : ℕ} → FirstCandidate P a i j → first_candidate P a ≡ some (i, j)
  unfolding in_row row
  first_candidate_complete {i} {j} h =
      at_place P a
      (first_complete (in_row P a)
      (record {
        within = h.i_within;
        passes = ap some_place in_row_i;
        before = λ k l. ap some_place (first_absent (candidate P a k) (λ m n. h.earlier_i k m l n));
      }))
      in_row_i
    where
      in_row_i : first P.count (candidate P a i) ≡ some j
      in_row_i = first_complete (candidate P a i) (record { within = h.j_within; passes = h.is_candidate; before = h.earlier_j })

  pub first_candidate_absent : ((i j : ℕ) → i < P.count → j < P.count → candidate P a i j ≡ false) → first_candidate P a ≡ none
  unfolding in_row row
  first_candidate_absent h = no_place P a (first_absent (in_row P a) (λ i l. ap some_place (first_absent (candidate P a i) (λ j m. h i j l m))))

  -- ---- the working pair
  -- the pair tried first is taken where it moves ..
  pub working_pair_tried : {i j : ℕ} → i_low P a ≡ some i → i_up P a ≡ some j → moves P a i j ≡ true → working_pair P a ≡ some (i, j)
  unfolding working_pair
  working_pair_tried e f m = rw (e, working_pair) (rw f (rw m))

  -- .. and the first candidate where it does not
  pub working_pair_fallback : {i j : ℕ} → i_low P a ≡ some i → i_up P a ≡ some j → moves P a i j ≡ false → working_pair P a ≡ first_candidate P a
  unfolding working_pair
  working_pair_fallback e f m = rw (e, working_pair) (rw f (rw m))

  no_low : i_low P a ≡ none → working_pair P a ≡ none
  unfolding working_pair
  no_low e = rw (e, working_pair)

  no_up : {i : ℕ} → i_low P a ≡ some i → i_up P a ≡ none → working_pair P a ≡ none
  unfolding working_pair
  no_up e f = rw (e, working_pair) (rw f)

  -- what was taken: a candidate, or there is none
  Taken : Option (ℕ × ℕ) → Type 0
  Taken none = (i j : ℕ) → i < P.count → j < P.count → candidate P a i j ≡ false
  Taken (some ij) = Candidate P a ij.0 ij.1

  found_taken : (o : Option (ℕ × ℕ)) → Found o → Taken o
  unfolding Found Taken
  found_taken none h = h
  found_taken (some ij) h = record { i_within = h.i_within; j_within = h.j_within; is_candidate = h.is_candidate }

  taken : Taken (working_pair P a)
  unfolding Taken
  taken = by_low (i_low P a) refl
    where
      tried_low : {i : ℕ} → i_low P a ≡ some i → Extreme (λ p q. lt_z q p) P.count (low P (at a)) (gradient P (at a)) i
      tried_low e = extreme_sound (λ p q. lt_z q p) gt_z_strict (low P (at a)) (gradient P (at a)) e

      by_moves : {i j : ℕ} → i_low P a ≡ some i → i_up P a ≡ some j → (t : Bool) → moves P a i j ≡ t → Taken (working_pair P a)
      by_moves {i} {j} e f true m =
          let h = tried_low e in
          let g = extreme_sound lt_z lt_z_strict (up P (at a)) (gradient P (at a)) f in
          subst Taken (sym (working_pair_tried e f m)) (record { i_within = h.within; j_within = g.within; is_candidate = candidate_made P a i j h.passes g.passes m })
      by_moves e f false m = subst Taken (sym (working_pair_fallback e f m)) (found_taken (first_candidate P a) found)

      by_up : {i : ℕ} → i_low P a ≡ some i → (o : Option ℕ) → i_up P a ≡ o → Taken (working_pair P a)
      by_up e none f =
          subst Taken (sym (no_up e f))
          (λ p q l m. not_true_false (candidate P a p q) (λ c. clash (candidate_up P a p q c) (extreme_none lt_z lt_z_strict (up P (at a)) (gradient P (at a)) f q m)))
      by_up {i} e (some j) f = by_moves e f (moves P a i j) refl

      by_low : (o : Option ℕ) → i_low P a ≡ o → Taken (working_pair P a)
      by_low none e =
          subst Taken (sym (no_low e))
          (λ p q l m. not_true_false (candidate P a p q) (λ c. clash (candidate_low P a p q c) (extreme_none (λ p q. lt_z q p) gt_z_strict (low P (at a)) (gradient P (at a)) e p l)))
      by_low (some i) e = by_up e (i_up P a) refl

  -- the pair taken is a candidate
  pub working_pair_sound : {i j : ℕ} → working_pair P a ≡ some (i, j) → Candidate P a i j
  unfolding Taken
  working_pair_sound e = subst Taken e taken

  -- none is taken where there is no candidate
  pub working_pair_none : working_pair P a ≡ none → (i j : ℕ) → i < P.count → j < P.count → candidate P a i j ≡ false
  unfolding Taken
  working_pair_none e = subst Taken e taken
