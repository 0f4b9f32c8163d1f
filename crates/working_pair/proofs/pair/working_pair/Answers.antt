-- `working_pair::pair::working_pair` meets its contract: the list holds G, so its extremes are where the thresholds are attained. Assumes nothing.
use Rattle.std.proofs.Common.{◌≡◌, ℕ, ◌<◌, Bool, List, None, Some, refl, sym, ◌∙◌, ap, arith, ℤ, pos, get_or}
use Rattle.std.specs.Int.Signed.{lt_z}
use Rattle.std.proofs.Math.Option as place
use Rattle.integers.specs.Extremum.{extreme}
use Rattle.integers.proofs.Laws.Extremum.{Strict, lt_z_strict, gt_z_strict, extreme_sound, extreme_cong}
use Rattle.dual_problem.specs.declared.problem.FileProblem.{FileProblem}
use Rattle.dual_problem.specs.Problem.{Problem, gradient, up, low, at}
use Rattle.dual_problem.specs.Given.{count_in, problem_in}
use Rattle.thresholds.specs.declared.extremes.Best.{Best}
use Rattle.thresholds.specs.declared.extremes.Extremes.{Extremes}
use Rattle.thresholds.specs.Extremes.{best_of, extremes_in}
use Rattle.working_pair.specs.declared.standing.Standing.{Standing}
use Rattle.working_pair.specs.Step.{i_low, i_up, moves, working_pair}
use Rattle.working_pair.specs.State.{State}
use Rattle.working_pair.specs.Pair.{pair_of}
use Rattle.working_pair.proofs.Laws.Step.WorkingPair.{working_pair_tried, working_pair_fallback}
use Rattle.working_pair.proofs.pair.working_pair.Goals as goal

-- what a best place says of what was found
best_some : (f : ℕ → ℤ) (o : place.Option ℕ) {k : Best} → best_of f o ≡ Some k → o ≡ place.some k.place
best_some f place.none e = cc
best_some f (place.some l) e = cc

best_none : (f : ℕ → ℤ) (o : place.Option ℕ) → best_of f o ≡ None → o ≡ place.none
best_none f place.none e = refl
best_none f (place.some l) e = cc

-- what the test of a row is of
moves_is : {s t : Standing} {i k : ℕ} → s ≡ t → k ≡ i → (j : ℕ) → moves (problem_in s.problem.now) s.multipliers.now k j ≡ moves (problem_in t.problem.now) t.multipliers.now i j
moves_is e d j = λ p. moves (problem_in (e p).problem.now) (e p).multipliers.now (d p) j

-- the thresholds' places, by the extremes of the list
module _ {f : FileProblem} {a : List ℕ} {g : List ℤ} (h : State f a g) (extremes : Extremes) (is : extremes ≡ extremes_in f a g) where
  abbrev P : Problem
  P = problem_in f

  -- the extreme one of the list is that of G
  same : (before : ℤ → ℤ → Bool) → Strict before → (t : ℕ → Bool) → extreme before P.count t (λ i. get_or g i (pos 0)) ≡ extreme before P.count t (gradient P (at a))
  same before strict t =
      extreme_cong before strict P.count t t (λ i. get_or g i (pos 0)) (gradient P (at a)) (λ i l. refl)
      (λ i l. h.kept i (omega (arith, f.listed.counted)))

  low_some : {b : Best} → extremes.low ≡ Some b → i_low P a ≡ place.some b.place
  low_some e = sym (same (λ x y. lt_z y x) gt_z_strict (low P (at a))) ∙ best_some (λ i. get_or g i (pos 0)) _ (sym (λ d. (is d).low) ∙ e)

  low_none : extremes.low ≡ None → i_low P a ≡ place.none
  low_none e = sym (same (λ x y. lt_z y x) gt_z_strict (low P (at a))) ∙ best_none (λ i. get_or g i (pos 0)) _ (sym (λ d. (is d).low) ∙ e)

  up_some : {b : Best} → extremes.up ≡ Some b → i_up P a ≡ place.some b.place
  up_some e = sym (same lt_z lt_z_strict (up P (at a))) ∙ best_some (λ i. get_or g i (pos 0)) _ (sym (λ d. (is d).up) ∙ e)

  up_none : extremes.up ≡ None → i_up P a ≡ place.none
  up_none e = sym (same lt_z lt_z_strict (up P (at a))) ∙ best_none (λ i. get_or g i (pos 0)) _ (sym (λ d. (is d).up) ∙ e)

  -- with no place for a threshold there is no pair
  no_low : extremes.low ≡ None → working_pair P a ≡ place.none
  unfolding working_pair
  no_low e = rw (low_none e, working_pair)

  no_up : {b : Best} → extremes.low ≡ Some b → extremes.up ≡ None → working_pair P a ≡ place.none
  unfolding working_pair
  no_up e f = rw (low_some e, working_pair) (rw (up_none f))

  -- the places found are places of the problem
  low_within : {b : Best} → extremes.low ≡ Some b → b.place < count_in f
  low_within e = omega (arith, (extreme_sound (λ x y. lt_z y x) gt_z_strict (low P (at a)) (gradient P (at a)) (low_some e)).within, f.listed.counted)

  up_within : {b : Best} → extremes.up ≡ Some b → b.place < count_in f
  up_within e = omega (arith, (extreme_sound lt_z lt_z_strict (up P (at a)) (gradient P (at a)) (up_some e)).within, f.listed.counted)

pub new-requires : goal.new-requires
new-requires c = low_within c.requires.state c.args.extremes c.requires.extremes c.in_ok-i.was

pub moves_with-requires : goal.moves_with-requires
moves_with-requires c =
    rw c.new.ensures.standing (up_within c.requires.state c.args.extremes c.requires.extremes c.in_ok-j.was)

pub returns : goal.returns
returns c =
    let s = c.requires.state in
    let x = c.args.extremes in
    let is = c.requires.extremes in
    c.first_candidate.ensures
    ∙ sym
    (ap pair_of
    (working_pair_fallback _ _ (low_some s x is c.in_ok-i.was) (up_some s x is c.in_ok-j.was)
    (sym (moves_is c.new.ensures.standing c.new.ensures.place c.in_ok-j.field-0.place) ∙ sym c.moves_with.ensures ∙ c.if-moves_with.false)))

pub returns-in_err-i : goal.returns-in_err-i
returns-in_err-i c =
    c.from_residual.ensures ∙ sym (ap pair_of (no_low c.requires.state c.args.extremes c.requires.extremes c.in_err-i.was))

pub returns-in_err-j : goal.returns-in_err-j
returns-in_err-j c =
    c.from_residual-in_err-j.ensures
    ∙ sym (ap pair_of (no_up c.requires.state c.args.extremes c.requires.extremes c.in_ok-i.was c.in_err-j.was))

pub returns-then-moves_with : goal.returns-then-moves_with
returns-then-moves_with c =
    let s = c.requires.state in
    let x = c.args.extremes in
    let is = c.requires.extremes in
    sym
    (ap pair_of
    (working_pair_tried _ _ (low_some s x is c.in_ok-i.was) (up_some s x is c.in_ok-j.was)
    (sym (moves_is c.new.ensures.standing c.new.ensures.place c.in_ok-j.field-0.place) ∙ sym c.moves_with.ensures ∙ c.if-moves_with.true)))
