-- Laws of the run: each step as a loop takes it; the multipliers that a run leaves are feasible and within the distance bound; what
-- each ending means, and that it is given exactly then; the steps counted are the moves made; a run cut into portions. Assumes nothing.
pub mod Append
use mathlib.Core.Path.{◌≡◌, refl, sym, ◌∙◌, ap, subst}
use mathlib.Core.Logic.{◌↔◌, ◌⊎◌, inl, inr, ⊎_elim}
use mathlib.Core.Bool.{Bool, true, false}
use mathlib.Core.List.{List}
use mathlib.Core.Option.{Option, none, some}
use Prim.Native.Nat.{ℕ, zero, suc, ◌+◌, ◌-◌, ◌*◌, ◌≤◌, ◌<◌}
use native.Mathlib.Nat.{zero-add, suc-add, add-zero}
use native.Mathlib.Omega.{arith}
use lib.IntN.{ℤ, pos, negsuc, ◌+ℤ◌, ◌-ℤ◌}
use lib.ListN.{length, length-replicate, get_or-replicate}
use lib.Signed.{le_z, ◌≤ℤ◌, ◌<ℤ◌, clash_ℤ}
use Rattle.integers.proofs.Laws.Linear.{integer, -ℤ-parts, +ℤ_parts}
use Rattle.integers.proofs.Laws.Order.{le_z_true, le_z_false}
use Rattle.integers.specs.Gram.{Gram}
use Rattle.dual_problem.specs.Problem.{BoundedDistance, LabelsPresent, Problem, Feasible, b_up, b_low, objective, gap, not_below_zero, at}
use Rattle.dual_problem.proofs.Laws.Problem.Distance.{bounded_distance}
use Rattle.dual_problem.proofs.Laws.Problem.Zeros.{zeros_feasible}
use Rattle.working_pair.specs.Step.{Candidate, amount, moved, working_pair}
use Rattle.working_pair.proofs.Laws.Step.{moved_length, moved_feasible, moves_apart, candidate_moves}
use Rattle.working_pair.specs.Move.{NoMoveLowers}
use Rattle.working_pair.proofs.Laws.Step.Amount.{amount_in_room, amount_lowers}
use Rattle.working_pair.proofs.Laws.Step.WorkingPair.{working_pair_sound}
use Rattle.working_pair.proofs.Laws.Move.Stuck.{candidate_lowers, stuck_exactly}
use Rattle.smo.specs.declared.ending.Ending.{Ending}
use Rattle.smo.specs.declared.ending.Ending.TheVariants.{Converged, Stuck, Spent}
use Rattle.smo.specs.Run.{Turn, stops, continues, turn, Outcome, one_step_more, run, run_from_zeros, zeros}
use Rattle.smo.specs.Run.Meaning.{GapPasses, OutcomeGapPasses, OutcomeMeans, Sound, Steps, no_step, step, more_steps}

-- ---- the gap
-- document 01's test for convergence is one of the gap
module _ (t : ℕ) (lower upper : ℤ) where
  pub gap_passes : GapPasses t lower upper ↔ ((upper +ℤ pos (2 * t)) <ℤ lower)
  gap_passes = by_sign (lower -ℤ upper) refl
    where
      by_sign : (z : ℤ) → lower -ℤ upper ≡ z → (2 * t < not_below_zero z) ↔ ((upper +ℤ pos (2 * t)) <ℤ lower)
      by_sign (pos n) e = omega (arith, integer, -ℤ-parts lower upper, +ℤ_parts upper (pos (2 * t)))
      by_sign (negsuc n) e = omega (arith, integer, -ℤ-parts lower upper, +ℤ_parts upper (pos (2 * t)))

  pub gap_within : (gap lower upper ≤ 2 * t) ↔ (lower ≤ℤ (upper +ℤ pos (2 * t)))
  gap_within = by_sign (lower -ℤ upper) refl
    where
      by_sign : (z : ℤ) → lower -ℤ upper ≡ z → (not_below_zero z ≤ 2 * t) ↔ (lower ≤ℤ (upper +ℤ pos (2 * t)))
      by_sign (pos n) e = omega (arith, integer, -ℤ-parts lower upper, +ℤ_parts upper (pos (2 * t)))
      by_sign (negsuc n) e = omega (arith, integer, -ℤ-parts lower upper, +ℤ_parts upper (pos (2 * t)))

-- ---- what is done at the multipliers a
module _ (P : Problem) (t : ℕ) where
  module _ (a : List ℕ) where
    -- by which tests training ends or goes on
    pub turn_converged : le_z (b_low P (at a)) (b_up P (at a) +ℤ pos (2 * t)) ≡ true → turn P t a ≡ stops Converged
    unfolding turn
    turn_converged e = rw (e, turn)

    pub turn_stuck : le_z (b_low P (at a)) (b_up P (at a) +ℤ pos (2 * t)) ≡ false → working_pair P a ≡ none → turn P t a ≡ stops Stuck
    unfolding turn
    turn_stuck e f = rw (e, turn) (rw f)

    pub turn_moves : {i j : ℕ} → le_z (b_low P (at a)) (b_up P (at a) +ℤ pos (2 * t)) ≡ false → working_pair P a ≡ some (i, j) → turn P t a ≡ continues (moved P a i j (amount P a i j))
    unfolding turn
    turn_moves e f = rw (e, turn) (rw f)

    -- what each answer says
    View : Turn → Type 0
    View (stops Converged) = gap (b_low P (at a)) (b_up P (at a)) ≤ 2 * t
    View (stops Stuck) = GapPasses t (b_low P (at a)) (b_up P (at a)) × (working_pair P a ≡ none)
    View (stops Spent) = ⊥
    View (continues b) = GapPasses t (b_low P (at a)) (b_up P (at a)) × (i : ℕ) × (j : ℕ) × Candidate P a i j × (b ≡ moved P a i j (amount P a i j))

    view : View (turn P t a)
    unfolding View
    view = by_gap (le_z (b_low P (at a)) (b_up P (at a) +ℤ pos (2 * t))) refl
      where
        passes : le_z (b_low P (at a)) (b_up P (at a) +ℤ pos (2 * t)) ≡ false → GapPasses t (b_low P (at a)) (b_up P (at a))
        passes e = (gap_passes t (b_low P (at a)) (b_up P (at a))).1 (le_z_false (b_low P (at a)) (b_up P (at a) +ℤ pos (2 * t)) e)

        by_pair : le_z (b_low P (at a)) (b_up P (at a) +ℤ pos (2 * t)) ≡ false → (o : Option (ℕ × ℕ)) → working_pair P a ≡ o → View (turn P t a)
        by_pair e none f = subst View (sym (turn_stuck e f)) (passes e, f)
        by_pair e (some ij) f = subst View (sym (turn_moves e f)) (passes e, ij.0, ij.1, working_pair_sound P a f, refl)

        by_gap : (b : Bool) → le_z (b_low P (at a)) (b_up P (at a) +ℤ pos (2 * t)) ≡ b → View (turn P t a)
        by_gap true e = subst View (sym (turn_converged e)) ((gap_within t (b_low P (at a)) (b_up P (at a))).1 (le_z_true (b_low P (at a)) (b_up P (at a) +ℤ pos (2 * t)) e))
        by_gap false e = by_pair e (working_pair P a) refl

  -- ---- the run, as a loop takes it: it ends at once, or at a limit of 0, or takes a step and has one less left
  pub run_ends : (limit : ℕ) (a : List ℕ) {e : Ending} → turn P t a ≡ stops e → run P t limit a ≡ record { ending = e; steps = 0; multipliers = a }
  unfolding run
  run_ends zero a h = rw (h, run)
  run_ends (suc limit) a h = rw (h, run)

  pub run_spent : (a : List ℕ) {b : List ℕ} → turn P t a ≡ continues b → run P t 0 a ≡ record { ending = Spent; steps = 0; multipliers = a }
  unfolding run
  run_spent a h = rw (h, run)

  pub run_goes_on : (limit : ℕ) (a : List ℕ) {b : List ℕ} → turn P t a ≡ continues b → run P t (suc limit) a ≡ one_step_more (run P t limit b)
  unfolding run
  run_goes_on limit a h = rw (h, run)

  -- what holds of the outcome of a run that ends at once, and is carried over a step, holds of every run's outcome
  pub run_induction : (Q : ℕ → List ℕ → Outcome → Type 0) → ((limit : ℕ) (a : List ℕ) (e : Ending) → turn P t a ≡ stops e → Q limit a (record { ending = e; steps = 0; multipliers = a }))
      → ((a b : List ℕ) → turn P t a ≡ continues b → Q 0 a (record { ending = Spent; steps = 0; multipliers = a }))
      → ((limit : ℕ) (a b : List ℕ) → turn P t a ≡ continues b → Q limit b (run P t limit b) → Q (suc limit) a (one_step_more (run P t limit b)))
      → (limit : ℕ) (a : List ℕ) → Q limit a (run P t limit a)
  run_induction Q at_end at_limit at-step zero a = by_turn (turn P t a) refl
    where
      by_turn : (n : Turn) → turn P t a ≡ n → Q 0 a (run P t 0 a)
      by_turn (stops e) h = subst (Q 0 a) (sym (run_ends 0 a h)) (at_end 0 a e h)
      by_turn (continues b) h = subst (Q 0 a) (sym (run_spent a h)) (at_limit a b h)
  run_induction Q at_end at_limit at-step (suc limit) a = by_turn (turn P t a) refl (run_induction Q at_end at_limit at-step limit)
    where
      by_turn : (n : Turn) → turn P t a ≡ n → ((b : List ℕ) → Q limit b (run P t limit b)) → Q (suc limit) a (run P t (suc limit) a)
      by_turn (stops e) h ih = subst (Q (suc limit) a) (sym (run_ends (suc limit) a h)) (at_end (suc limit) a e h)
      by_turn (continues b) h ih = subst (Q (suc limit) a) (sym (run_goes_on limit a h)) (at-step limit a b h (ih b))

  -- ---- the steps counted are the moves made
  pub run_steps : (limit : ℕ) (a : List ℕ) → Steps P t a (run P t limit a).steps (run P t limit a).multipliers
  run_steps = run_induction (λ limit a o. Steps P t a o.steps o.multipliers) (λ limit a e h. no_step) (λ a b h. no_step) (λ limit a b h s. step h s)

  -- and they are no more than the limit allows
  pub run_steps_limit : (limit : ℕ) (a : List ℕ) → (run P t limit a).steps ≤ limit
  run_steps_limit = run_induction (λ limit a o. o.steps ≤ limit) (λ limit a e h. omega arith) (λ a b h. omega arith) (λ limit a b h s. omega arith)

  -- at the multipliers left training ends as the outcome says, or it would go on and all steps are taken
  Final : ℕ → Outcome → Type 0
  Final limit o = (turn P t o.multipliers ≡ stops o.ending) ⊎ ((o.ending ≡ Spent) × (o.steps ≡ limit) × (b : List ℕ) × (turn P t o.multipliers ≡ continues b))

  run_final : (limit : ℕ) (a : List ℕ) → Final limit (run P t limit a)
  unfolding Final
  run_final = run_induction (λ limit a o. Final limit o) (λ limit a e h. inl h) (λ a b h. inr (refl, refl, b, h)) (λ limit a b h. ⊎_elim (λ e. inl e) (λ r. inr (r.0, ap suc r.1, r.2, r.3)))

  -- ---- a run cut into portions
  -- after k steps the run goes on as a run from where they led
  pub run_after_steps : {a b : List ℕ} {k : ℕ} → Steps P t a k b → (limit : ℕ) → run P t (k + limit) a ≡ more_steps k (run P t limit b)
  run_after_steps {a} no_step limit = ap (λ l. run P t l a) (zero-add limit) ∙ (λ d. record { ending = (run P t limit a).ending; steps = sym (zero-add (run P t limit a).steps) d; multipliers = (run P t limit a).multipliers })
  run_after_steps {a} {b = c} (step {b} {k} h s) limit =
      ap (λ l. run P t l a) (suc-add k limit) ∙ run_goes_on (k + limit) a h ∙ ap one_step_more (run_after_steps s limit)
      ∙ (λ d. record { ending = (run P t limit c).ending; steps = sym (suc-add k (run P t limit c).steps) d; multipliers = (run P t limit c).multipliers })

  -- no answer is "spent" before the limit is looked at
  never_spent : (a : List ℕ) → ¬ (turn P t a ≡ stops Spent)
  unfolding View
  never_spent a h = subst (View a) h (view a)

  -- a run that its limit ended goes on, with a higher one, from the multipliers that it left ..
  pub run_cut_spent : (k limit : ℕ) (a : List ℕ) → (run P t k a).ending ≡ Spent → run P t (k + limit) a ≡ more_steps k (run P t limit (run P t k a).multipliers)
  unfolding Final
  run_cut_spent k limit a spent =
      ⊎_elim (λ e. absurd (never_spent (run P t k a).multipliers (subst (λ q. turn P t (run P t k a).multipliers ≡ stops q) spent e)))
      (λ r. run_after_steps (subst (λ n. Steps P t a n (run P t k a).multipliers) r.1 (run_steps k a)) limit) (run_final k a)

  -- .. and any other is the same with a higher one
  pub run_cut_ended : (k limit : ℕ) (a : List ℕ) → ¬ ((run P t k a).ending ≡ Spent) → run P t (k + limit) a ≡ run P t k a
  unfolding Final
  run_cut_ended k limit a ended = ⊎_elim over (λ r. absurd (ended r.0)) (run_final k a)
    where
      o : Outcome
      o = run P t k a

      over : turn P t o.multipliers ≡ stops o.ending → run P t (k + limit) a ≡ run P t k a
      over e =
          let rest = k - o.steps + limit in
          let q : k + limit ≡ o.steps + rest = omega (arith, run_steps_limit k a) in
          ap (λ l. run P t l a) q ∙ run_after_steps (run_steps k a) rest ∙ ap (more_steps o.steps) (run_ends rest o.multipliers e)
          ∙ (λ d. record { ending = o.ending; steps = add-zero o.steps d; multipliers = o.multipliers })

  -- ---- "A step is one move", of a pair that moves
  pub step_moved : {a b : List ℕ} → turn P t a ≡ continues b → (i : ℕ) × (j : ℕ) × Candidate P a i j × (b ≡ moved P a i j (amount P a i j))
  unfolding View
  step_moved {a} h = let v = subst (View a) h (view a) in (v.1, v.2, v.3, v.4)

  -- ---- the list keeps its length
  pub step_long : (a : List ℕ) {b : List ℕ} → turn P t a ≡ continues b → P.count ≤ length a → P.count ≤ length b
  step_long a h long = let m = step_moved h in omega (arith, ap length m.3, moved_length P a m.0 m.1 (amount P a m.0 m.1))

  pub steps-length : {a b : List ℕ} {k : ℕ} → Steps P t a k b → length b ≡ length a
  steps-length no_step = refl
  steps-length {a} (step h s) =
      let m = step_moved h in
      steps-length s ∙ ap length m.3 ∙ moved_length P a m.0 m.1 (amount P a m.0 m.1)

  pub run_length : (limit : ℕ) (a : List ℕ) → length (run P t limit a).multipliers ≡ length a
  run_length limit a = steps-length (run_steps limit a)

  module _ (gram : Gram P.count P.kernel) where
    -- ---- a step keeps the multipliers feasible, and lowers the objective by 1 at least; so k steps lower it by k
    module _ (a : List ℕ) {b : List ℕ} (h : turn P t a ≡ continues b) (long : P.count ≤ length a) where
      pub step_feasible : Feasible P (at a) → Feasible P (at b)
      step_feasible f =
          let (i, j, c, e) = step_moved h in
          let apart = moves_apart P gram a i j c.i_within c.j_within (candidate_moves P a i j c.is_candidate) in
          let fits = amount_in_room P gram a long i j c.i_within c.j_within c.is_candidate in
          subst (λ q. Feasible P (at q)) (sym e) (moved_feasible P a i j c.i_within c.j_within apart long (amount P a i j) fits f)

      pub step_lowers : objective P (at b) ≤ℤ (objective P (at a) -ℤ pos 1)
      step_lowers =
          let (i, j, c, e) = step_moved h in
          subst (λ q. objective P (at q) ≤ℤ (objective P (at a) -ℤ pos 1)) (sym e) (amount_lowers P gram a long i j c.i_within c.j_within c.is_candidate)

    pub steps_feasible : {a b : List ℕ} {k : ℕ} → Steps P t a k b → P.count ≤ length a → Feasible P (at a) → Feasible P (at b)
    steps_feasible no_step long f = f
    steps_feasible {a} (step h s) long f = steps_feasible s (step_long a h long) (step_feasible a h long f)

    pub steps_lower : {a b : List ℕ} {k : ℕ} → Steps P t a k b → P.count ≤ length a → objective P (at b) ≤ℤ (objective P (at a) -ℤ pos k)
    steps_lower {a} no_step long = omega (arith, integer, -ℤ-parts (objective P (at a)) (pos 0))
    steps_lower {a} {b = c} (step {b} {k} h s) long =
        let l = step_lowers a h long in
        let r = steps_lower s (step_long a h long) in
        omega (arith, integer, -ℤ-parts (objective P (at a)) (pos 1), -ℤ-parts (objective P (at b)) (pos k), -ℤ-parts (objective P (at a)) (pos (suc k)))

    -- ---- the outcome of a run from feasible multipliers
    module _ (limit : ℕ) (a : List ℕ) (long : P.count ≤ length a) (feasible : Feasible P (at a)) where
      -- demand 3: the multipliers are feasible ..
      pub run_feasible : Feasible P (at (run P t limit a).multipliers)
      run_feasible = steps_feasible (run_steps limit a) long feasible

      long_left : P.count ≤ length (run P t limit a).multipliers
      long_left = omega (arith, run_length limit a)

      -- .. and no feasible multipliers, on this grid or a finer one, are further below them than the bound, at whichever ending
      pub run_bounded : LabelsPresent P
          → BoundedDistance P (b_low P (at (run P t limit a).multipliers)) (b_up P (at (run P t limit a).multipliers)) (at (run P t limit a).multipliers)
      run_bounded present = bounded_distance P gram present (at (run P t limit a).multipliers) run_feasible

      -- the ending means what it says
      pub run_means : OutcomeMeans P t limit (run P t limit a) (run P t limit a).ending
      unfolding Final View
      run_means = ⊎_elim (λ e. ended o.ending (subst (View o.multipliers) e (view o.multipliers))) at_limit (run_final limit a)
        where
          o : Outcome
          o = run P t limit a

          ended : (e : Ending) → View o.multipliers (stops e) → OutcomeMeans P t limit o e
          ended Converged v = v
          ended Stuck v = (v.0, (stuck_exactly P gram o.multipliers long_left run_feasible).0 v.1)
          ended Spent v = absurd v

          at_limit : (o.ending ≡ Spent) × (o.steps ≡ limit) × (b : List ℕ) × (turn P t o.multipliers ≡ continues b) → OutcomeMeans P t limit o o.ending
          at_limit (spent, all, b, h) =
              let v = subst (View o.multipliers) h (view o.multipliers) in
              subst (OutcomeMeans P t limit o) (sym spent) (all, v.0, v.1, v.2, v.3)

      -- ---- each ending is given exactly when its meaning holds at the multipliers left
      abbrev left : List ℕ
      left = (run P t limit a).multipliers

      -- "if b_low ≤ b_up + 2 × t, the ending is converged", and only then
      pub converged_exactly : ((run P t limit a).ending ≡ Converged) ↔ (b_low P (at (run P t limit a).multipliers) ≤ℤ (b_up P (at (run P t limit a).multipliers) +ℤ pos (2 * t)))
      converged_exactly = by_ending (run P t limit a).ending run_means
        where
          by_ending : (e : Ending) → OutcomeMeans P t limit (run P t limit a) e → (e ≡ Converged) ↔ (b_low P (at left) ≤ℤ (b_up P (at left) +ℤ pos (2 * t)))
          by_ending Converged m = (λ q. (gap_within t (b_low P (at left)) (b_up P (at left))).0 m, λ q. refl)
          by_ending Stuck m = (λ q. cc, λ q. clash_ℤ ((gap_passes t (b_low P (at left)) (b_up P (at left))).0 m.0) q)
          by_ending Spent m = (λ q. cc, λ q. clash_ℤ ((gap_passes t (b_low P (at left)) (b_up P (at left))).0 m.1) q)

      -- Demand 3: "Training ends stuck exactly when, at the multipliers that it leaves, the gap passes twice the tolerance and no move
      -- of two multipliers on the grid lowers the objective."
      pub stuck_ending_exactly : ((run P t limit a).ending ≡ Stuck) ↔ (OutcomeGapPasses P t (run P t limit a) × NoMoveLowers P (at (run P t limit a).multipliers))
      stuck_ending_exactly = by_ending (run P t limit a).ending run_means
        where
          by_ending : (e : Ending) → OutcomeMeans P t limit (run P t limit a) e → (e ≡ Stuck) ↔ (OutcomeGapPasses P t (run P t limit a) × NoMoveLowers P (at left))
          by_ending Converged m = (λ q. cc, λ q. absurd (omega (arith, q.0)))
          by_ending Stuck m = (λ q. m, λ q. refl)
          by_ending Spent m = (λ q. cc, λ q. absurd (candidate_lowers P gram left long_left run_feasible m.4 q.1))

      -- the limit ended the run exactly when the gap passes and some pair moves
      pub spent_exactly : ((run P t limit a).ending ≡ Spent) ↔ (OutcomeGapPasses P t (run P t limit a) × (i : ℕ) × (j : ℕ) × Candidate P (run P t limit a).multipliers i j)
      spent_exactly = by_ending (run P t limit a).ending run_means
        where
          by_ending : (e : Ending) → OutcomeMeans P t limit (run P t limit a) e → (e ≡ Spent) ↔ (OutcomeGapPasses P t (run P t limit a) × (i : ℕ) × (j : ℕ) × Candidate P left i j)
          by_ending Converged m = (λ q. cc, λ q. absurd (omega (arith, q.0)))
          by_ending Stuck m = (λ q. cc, λ q. absurd (candidate_lowers P gram left long_left run_feasible q.3 m.1))
          by_ending Spent m = (λ q. (m.1, m.2, m.3, m.4), λ q. refl)

      -- all of this
      pub run_sound : LabelsPresent P → Sound P t limit (run P t limit a)
      run_sound present = record { bounded = run_bounded present; in_limit = run_steps_limit limit a; means = run_means; stuck_exactly = stuck_ending_exactly }

-- ---- the start
pub zeros-length : (n : ℕ) → length (zeros n) ≡ n
zeros-length n = length-replicate {A = ℕ} n 0

-- what training leaves
pub run_from_zeros_sound : (P : Problem) → Gram P.count P.kernel → LabelsPresent P → (t budget : ℕ) → Sound P t budget (run_from_zeros P t budget)
run_from_zeros_sound P gram present t budget =
    run_sound P t gram budget (zeros P.count) (omega (arith, zeros-length P.count))
    (zeros_feasible P (at (zeros P.count)) (λ i l. get_or-replicate {A = ℕ} P.count i 0 0 l)) present

pub run_from_zeros-length : (P : Problem) (t budget : ℕ) → length (run_from_zeros P t budget).multipliers ≡ P.count
run_from_zeros-length P t budget = run_length P t budget (zeros P.count) ∙ zeros-length P.count
