-- Demand 3: no pair moves exactly when no move of two multipliers on the grid lowers the objective. Feasible multipliers that differ
-- at two places differ by a move of a place of the low set and one of the up set; by s it changes the objective by s² × η − 2 × s × g,
-- which is below 0 for some s exactly when it is for s = 1, since η isn't negative. Assumes nothing.
use mathlib.Core.Path.{◌≡◌, refl, sym, ◌∙◌, ap, subst}
use mathlib.Core.Logic.{◌↔◌, ◌⊎◌, inl, inr, ⊎_elim}
use mathlib.Core.Bool.{true, false}
use mathlib.Core.List.{List, [], ◌∷◌}
use mathlib.Core.Option.{Option, none, some}
use Prim.Native.Nat.{ℕ, zero, suc, ◌≤◌}
use native.Mathlib.Omega.{arith}
use borrow.Author.Tests.{lt-ltb}
use lib.IntN.{ℤ, pos, negsuc, ◌+ℤ◌, ◌-ℤ◌, ◌*ℤ◌}
use lib.ListN.{length}
use lib.Signed.{◌≤ℤ◌, clash_ℤ}
use Rattle.integers.proofs.Laws.Truth.{clash, not_true_false}
use Rattle.integers.proofs.Laws.Solver.{con, ◌⊕◌, ◌⊗◌, ◌⊖◌, x₀, x₁, x₂, x₃}
use Rattle.integers.proofs.Laws.Linear.{integer, +ℤ_parts, -ℤ-parts, *ℤ_parts}
use Rattle.integers.proofs.Laws.Order.{lt_z_false, positivity, certificate}
use Rattle.integers.proofs.Laws.Sum.Places.{sum_changed₂}
use Rattle.integers.specs.Gram.{Gram}
use Rattle.training_file.specs.declared.item.Label.{Label}
use Rattle.training_file.specs.declared.item.Label.TheVariants.{LookedUp, PassedOver}
use Rattle.dual_problem.specs.Problem.{Problem, Feasible, sign, y, in_up, in_low, objective, at}
use Rattle.working_pair.specs.Step.{Candidate, amount, curvature, moved, moves, slope, working_pair}
use Rattle.working_pair.proofs.Laws.Step.{moved_move, moved_feasible, curvature_nonneg, moves_apart, candidate_made, candidate_moves}
use Rattle.working_pair.specs.Move.{Move, TwoMove, NoMoveLowers}
use Rattle.working_pair.proofs.Laws.Move.{move_objective}
use Rattle.working_pair.proofs.Laws.Step.Amount.{amount_positive, amount_in_room, amount_lowers}
use Rattle.working_pair.proofs.Laws.Step.WorkingPair.{working_pair_sound, working_pair_none}

-- ---- at a place: a multiplier a of a ceiling c, and b after a move by s
module _ (a b c s : ℕ) (moving : 1 ≤ s) (inside : b ≤ c) where
  -- what falls is in the low set, what rises in the up set
  lowers_low : (l : Label) → pos b *ℤ sign l ≡ pos a *ℤ sign l -ℤ pos s → in_low l a c ≡ true
  lowers_low LookedUp e = lt-ltb 0 a (omega (arith, integer, -ℤ-parts (pos a *ℤ pos 1) (pos s)))
  lowers_low PassedOver e = lt-ltb a c (omega (arith, integer, *ℤ_parts (pos b) (negsuc 0), *ℤ_parts (pos a) (negsuc 0), -ℤ-parts (pos a *ℤ negsuc 0) (pos s)))

  raises_up : (l : Label) → pos b *ℤ sign l ≡ pos a *ℤ sign l +ℤ pos s → in_up l a c ≡ true
  raises_up LookedUp e = lt-ltb a c (omega (arith, integer, +ℤ_parts (pos a *ℤ pos 1) (pos s)))
  raises_up PassedOver e = lt-ltb 0 a (omega (arith, integer, *ℤ_parts (pos b) (negsuc 0), *ℤ_parts (pos a) (negsuc 0), +ℤ_parts (pos a *ℤ negsuc 0) (pos s)))

-- the label's sign hides no difference
same_multiplier : (a b : ℕ) (l : Label) → pos b *ℤ sign l -ℤ pos a *ℤ sign l ≡ pos 0 → b ≡ a
same_multiplier a b LookedUp e = omega (arith, integer, -ℤ-parts (pos b *ℤ pos 1) (pos a *ℤ pos 1))
same_multiplier a b PassedOver e = omega (arith, integer, *ℤ_parts (pos b) (negsuc 0), *ℤ_parts (pos a) (negsuc 0), -ℤ-parts (pos b *ℤ negsuc 0) (pos a *ℤ negsuc 0))

-- ---- two feasible points that differ at two places differ by a move, the one way or the other
abbrev MoveOf : Problem → (ℕ → ℕ) → (ℕ → ℕ) → ℕ → ℕ → Type 0
MoveOf P a b i j = (s : ℕ) × (1 ≤ s) × Move P a b i j s

two_move_move : {P : Problem} {a b : ℕ → ℕ} {i j : ℕ} → Feasible P a → TwoMove P a b i j → MoveOf P a b i j ⊎ MoveOf P a b j i
two_move_move {P} {a} {b} {i} {j} feasible m = by_sign (δ i) refl
  where
    -- the change with its sign
    δ : ℕ → ℤ
    δ k = pos (b k) *ℤ y P k -ℤ pos (a k) *ℤ y P k

    opposite : pos 0 ≡ pos 0 +ℤ δ i +ℤ δ j
    opposite =
        sym m.feasible.balanced
        ∙ sum_changed₂ P.count i j m.i_within m.j_within m.apart (λ k. pos (a k) *ℤ y P k) (λ k. pos (b k) *ℤ y P k) (λ k l c d. ap (λ w. pos w *ℤ y P k) (m.keeps k l c d))
        ∙ ap (λ z. z +ℤ δ i +ℤ δ j) feasible.balanced

    by_sign : (z : ℤ) → δ i ≡ z → MoveOf P a b i j ⊎ MoveOf P a b j i
    by_sign (pos zero) e = absurd (m.i_differs (same_multiplier (a i) (b i) (P.label i) e))
    by_sign (pos (suc n)) e =
        let o = opposite in
        inr (
          suc n,
          omega arith,
          record {
            i_within = m.j_within;
            j_within = m.i_within;
            apart = λ q. m.apart (sym q);
            lowers = omega (arith, integer, -ℤ-parts (pos (a j) *ℤ y P j) (pos (suc n)), -ℤ-parts (pos (b j) *ℤ y P j) (pos (a j) *ℤ y P j), +ℤ_parts (pos 0) (δ i), +ℤ_parts (pos 0 +ℤ δ i) (δ j));
            raises = omega (arith, integer, +ℤ_parts (pos (a i) *ℤ y P i) (pos (suc n)), -ℤ-parts (pos (b i) *ℤ y P i) (pos (a i) *ℤ y P i));
            keeps = λ k l c d. m.keeps k l d c;
          },
        )
    by_sign (negsuc n) e =
        let o = opposite in
        inl (
          suc n,
          omega arith,
          record {
            i_within = m.i_within;
            j_within = m.j_within;
            apart = m.apart;
            lowers = omega (arith, integer, -ℤ-parts (pos (a i) *ℤ y P i) (pos (suc n)), -ℤ-parts (pos (b i) *ℤ y P i) (pos (a i) *ℤ y P i));
            raises = omega (arith, integer, +ℤ_parts (pos (a j) *ℤ y P j) (pos (suc n)), -ℤ-parts (pos (b j) *ℤ y P j) (pos (a j) *ℤ y P j), +ℤ_parts (pos 0) (δ i), +ℤ_parts (pos 0 +ℤ δ i) (δ j));
            keeps = m.keeps;
          },
        )

-- a move by 1 or more changes both multipliers
move_differs : {P : Problem} {a b : ℕ → ℕ} {i j s : ℕ} → Move P a b i j s → 1 ≤ s → (¬ (b i ≡ a i)) × (¬ (b j ≡ a j))
move_differs {P} {a} {b} {i} {j} {s} m h = (
  (λ e. let q : pos (a i) *ℤ y P i ≡ pos (a i) *ℤ y P i -ℤ pos s = subst (λ w. pos w *ℤ y P i ≡ pos (a i) *ℤ y P i -ℤ pos s) e m.lowers in omega (arith, integer, -ℤ-parts (pos (a i) *ℤ y P i) (pos s))),
  (λ e. let q : pos (a j) *ℤ y P j ≡ pos (a j) *ℤ y P j +ℤ pos s = subst (λ w. pos w *ℤ y P j ≡ pos (a j) *ℤ y P j +ℤ pos s) e m.raises in omega (arith, integer, +ℤ_parts (pos (a j) *ℤ y P j) (pos s))),
)

module _ (P : Problem) (gram : Gram P.count P.kernel) (a : List ℕ) where
  -- a pair that does not move: no move of it lowers the objective
  stays_no_lower : {b : ℕ → ℕ} {i j s : ℕ} → Move P (at a) b i j s → 1 ≤ s → moves P a i j ≡ false → objective P (at a) ≤ℤ objective P b
  stays_no_lower {b} {i} {j} {s} m h e =
      let k = lt_z_false (curvature P i j) (pos 2 *ℤ slope P a i j) e in
      let n = curvature_nonneg P gram i j m.i_within m.j_within in
      let o : pos 1 ≤ℤ pos s = omega (arith, integer) in
      subst (λ z. objective P (at a) ≤ℤ z) (sym (move_objective m gram))
      (certificate (objective P (at a) ∷ pos s ∷ curvature P i j ∷ slope P a i j ∷ []) x₀ (x₀ ⊕ (x₁ ⊗ x₁ ⊗ x₂ ⊖ con (pos 2) ⊗ x₁ ⊗ x₃))
      (x₁ ⊗ ((x₁ ⊖ con (pos 1)) ⊗ x₂ ⊕ (x₂ ⊖ con (pos 2) ⊗ x₃))) refl (search positivity))

  module _ (long : P.count ≤ length a) where
    module _ (feasible : Feasible P (at a)) where
      -- a candidate gives a move of two multipliers that lowers the objective
      pub candidate_lowers : {i j : ℕ} → Candidate P a i j → ¬ NoMoveLowers P (at a)
      candidate_lowers {i} {j} c none-lowers =
          let s = amount P a i j in
          let one = amount_positive P gram a long i j c.i_within c.j_within c.is_candidate in
          let fits = amount_in_room P gram a long i j c.i_within c.j_within c.is_candidate in
          let lower = amount_lowers P gram a long i j c.i_within c.j_within c.is_candidate in
          let apart = moves_apart P gram a i j c.i_within c.j_within (candidate_moves P a i j c.is_candidate) in
          let m = moved_move P a i j c.i_within c.j_within apart long s fits in
          let d = move_differs m one in
          none-lowers (at (moved P a i j s)) i j
          (record {
            i_within = c.i_within;
            j_within = c.j_within;
            apart = apart;
            feasible = moved_feasible P a i j c.i_within c.j_within apart long s fits feasible;
            i_differs = d.0;
            j_differs = d.1;
            keeps = m.keeps;
          })
          (omega (arith, integer, -ℤ-parts (objective P (at a)) (pos 1)))

      -- no pair moves exactly when no move of two multipliers lowers the objective
      pub stuck_exactly : (working_pair P a ≡ none) ↔ NoMoveLowers P (at a)
      stuck_exactly = (there, λ h. back h (working_pair P a) refl)
        where
          there : working_pair P a ≡ none → NoMoveLowers P (at a)
          there e b i j m lower = ⊎_elim (no_lower i j) (no_lower j i) (two_move_move feasible m)
            where
              no_lower : (p q : ℕ) → MoveOf P (at a) b p q → ⊥
              no_lower p q (s, one, n) =
                  let p-low = lowers_low (at a p) (b p) (P.ceiling p) s one (m.feasible.within p n.i_within) (P.label p) n.lowers in
                  let q-up = raises_up (at a q) (b q) (P.ceiling q) s one (m.feasible.within q n.j_within) (P.label q) n.raises in
                  clash_ℤ lower
                  (stays_no_lower n one
                  (not_true_false (moves P a p q) (λ t. clash (candidate_made P a p q p-low q-up t) (working_pair_none P a e p q n.i_within n.j_within))))

          back : NoMoveLowers P (at a) → (o : Option (ℕ × ℕ)) → working_pair P a ≡ o → working_pair P a ≡ none
          back h none e = e
          back h (some ij) e = absurd (candidate_lowers (working_pair_sound P a e) h)
