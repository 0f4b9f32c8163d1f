-- The amount of a move, of a pair of the low set and the up set that moves: it is from 1 to r, no amount from 1 to r has a lower
-- objective and each smaller one a higher; a program finds it by one division. Assumes nothing.
use mathlib.Core.Path.{◌≡◌, refl, sym, ◌∙◌, ap, subst, subst₂}
use mathlib.Core.Bool.{true}
use mathlib.Core.List.{List, [], ◌∷◌}
use mathlib.Core.Option.{get_or}
use Prim.Native.Nat.{ℕ, suc, ◌+◌, ◌-◌, ◌*◌, ◌/◌, ◌≤◌, ◌<◌, min}
use native.Mathlib.Nat.{le_refl, mul-le-mul_right, div-mul-le_self, lt-div-mul-add, le-div_iff_mul-le, min-le_right}
use native.Mathlib.Decide.{dec_lt}
use native.Mathlib.Omega.{arith}
use borrow.Author.Tests.{leb-true, le-leb}
use lib.Dec.{leb}
use lib.IntN.{ℤ, pos, ◌+ℤ◌, ◌-ℤ◌, ◌*ℤ◌, *ℤ-zero}
use lib.ListN.{length}
use lib.Signed.{lt_z, ◌≤ℤ◌, ◌<ℤ◌, ≤ℤ_refl}
use Rattle.integers.proofs.Laws.Solver.{con, ◌⊕◌, ◌⊗◌, ◌⊖◌, x₀, x₁, x₂, x₃, x₄}
use Rattle.integers.proofs.Laws.Linear.{integer, +ℤ_parts, -ℤ-parts, *ℤ_parts}
use Rattle.integers.proofs.Laws.Order.{lt_z_true, lt_z_false, <ℤ-lt_z, ≤ℤ-lt_z, <ℤ_to-≤ℤ, positivity, certificate}
use Rattle.integers.proofs.Laws.Extremum.{Extreme, lt_z_strict, extreme_found, extreme_sound, extreme_complete}
use Rattle.integers.specs.Gram.{Gram}
use Rattle.dual_problem.specs.Problem.{Problem, objective, at}
use Rattle.working_pair.specs.Step.{slope, curvature, moved, room, amount, candidate}
use Rattle.working_pair.proofs.Laws.Step.{room_positive, moved_objective, curvature_nonneg, moves_slope, moves_apart, candidate_low, candidate_up, candidate_moves}

module _ (P : Problem) (gram : Gram P.count P.kernel) (a : List ℕ) (long : P.count ≤ length a) (i j : ℕ) (i_within : i < P.count) (j_within : j < P.count) where
  -- the objective after a move by s
  abbrev after : ℕ → ℤ
  after s = objective P (at (moved P a i j s))

  module _ (apart : ¬ (i ≡ j)) (s d : ℕ) (in_room : s + d ≤ room P a i j) where
    after_s : after s ≡ objective P (at a) +ℤ (pos (s * s) *ℤ curvature P i j -ℤ pos 2 *ℤ pos s *ℤ slope P a i j)
    after_s = moved_objective P a i j i_within j_within apart long s (omega arith) gram

    after_more : after (s + d) ≡ objective P (at a) +ℤ (pos ((s + d) * (s + d)) *ℤ curvature P i j -ℤ pos 2 *ℤ pos (s + d) *ℤ slope P a i j)
    after_more = moved_objective P a i j i_within j_within apart long (s + d) in_room gram

    -- a move by d more is better while (2 s + d) × η is below 2 × g ..
    more_lowers : 1 ≤ d → (pos (2 * s + d) *ℤ curvature P i j) <ℤ (pos 2 *ℤ slope P a i j) → after (s + d) <ℤ after s
    more_lowers h k =
        let l : (pos (2 * s + d) *ℤ curvature P i j +ℤ pos 1) ≤ℤ (pos 2 *ℤ slope P a i j) = omega (arith, integer, +ℤ_parts (pos (2 * s + d) *ℤ curvature P i j) (pos 1)) in
        let o : pos 1 ≤ℤ pos d = omega (arith, integer) in
        let c : (objective P (at a) +ℤ (pos ((s + d) * (s + d)) *ℤ curvature P i j -ℤ pos 2 *ℤ pos (s + d) *ℤ slope P a i j) +ℤ pos 1) ≤ℤ (objective P (at a) +ℤ (pos (s * s) *ℤ curvature P i j -ℤ pos 2 *ℤ pos s *ℤ slope P a i j)) =
        certificate (objective P (at a) ∷ pos s ∷ pos d ∷ curvature P i j ∷ slope P a i j ∷ [])
        (x₀ ⊕ ((x₁ ⊕ x₂) ⊗ (x₁ ⊕ x₂) ⊗ x₃ ⊖ con (pos 2) ⊗ (x₁ ⊕ x₂) ⊗ x₄) ⊕ con (pos 1)) (x₀ ⊕ (x₁ ⊗ x₁ ⊗ x₃ ⊖ con (pos 2) ⊗ x₁ ⊗ x₄))
        (x₂ ⊗ (con (pos 2) ⊗ x₄ ⊖ ((con (pos 2) ⊗ x₁ ⊕ x₂) ⊗ x₃ ⊕ con (pos 1))) ⊕ (x₂ ⊖ con (pos 1))) refl (search positivity)
        in
        subst₂ (λ p q. p <ℤ q) (sym after_more) (sym after_s) (succeeds c)
      where
        succeeds : {p q : ℤ} → (p +ℤ pos 1) ≤ℤ q → p <ℤ q
        succeeds {p} {q} h = omega (arith, integer, +ℤ_parts p (pos 1))

    -- .. and no better from there on
    more_raises : (pos 2 *ℤ slope P a i j) ≤ℤ (pos (2 * s + d) *ℤ curvature P i j) → after s ≤ℤ after (s + d)
    more_raises k =
        let c : (objective P (at a) +ℤ (pos (s * s) *ℤ curvature P i j -ℤ pos 2 *ℤ pos s *ℤ slope P a i j)) ≤ℤ (objective P (at a) +ℤ (pos ((s + d) * (s + d)) *ℤ curvature P i j -ℤ pos 2 *ℤ pos (s + d) *ℤ slope P a i j)) =
        certificate (objective P (at a) ∷ pos s ∷ pos d ∷ curvature P i j ∷ slope P a i j ∷ [])
        (x₀ ⊕ (x₁ ⊗ x₁ ⊗ x₃ ⊖ con (pos 2) ⊗ x₁ ⊗ x₄)) (x₀ ⊕ ((x₁ ⊕ x₂) ⊗ (x₁ ⊕ x₂) ⊗ x₃ ⊖ con (pos 2) ⊗ (x₁ ⊕ x₂) ⊗ x₄))
        (x₂ ⊗ ((con (pos 2) ⊗ x₁ ⊕ x₂) ⊗ x₃ ⊖ con (pos 2) ⊗ x₄)) refl (search positivity)
        in
        subst₂ (λ p q. p ≤ℤ q) (sym after_s) (sym after_more) c

  module _ (h : candidate P a i j ≡ true) where
    apart : ¬ (i ≡ j)
    apart = moves_apart P gram a i j i_within j_within (candidate_moves P a i j h)

    some_room : 1 ≤ room P a i j
    some_room = room_positive P a i j (candidate_low P a i j h) (candidate_up P a i j h)

    -- ---- the amount is the first of those with the lowest objective
    amount_extreme : Extreme lt_z (suc (room P a i j)) (leb 1) after (amount P a i j)
    unfolding amount
    amount_extreme =
        let r = extreme_found lt_z lt_z_strict (leb 1) after {n = suc (room P a i j)} {i = 1} (omega (arith, some_room)) refl in
        subst (Extreme lt_z (suc (room P a i j)) (leb 1) after) (sym (ap (λ o. get_or o 0) r.1)) (extreme_sound lt_z lt_z_strict (leb 1) after r.1)

    pub amount_positive : 1 ≤ amount P a i j
    amount_positive = leb-true 1 (amount P a i j) amount_extreme.passes

    pub amount_in_room : amount P a i j ≤ room P a i j
    amount_in_room = omega (arith, amount_extreme.within)

    -- "that of 1 to r with the lowest D .."
    pub amount_least : (s : ℕ) → 1 ≤ s → s ≤ room P a i j → objective P (at (moved P a i j (amount P a i j))) ≤ℤ objective P (at (moved P a i j s))
    amount_least s k l = lt_z_false (after s) (after (amount P a i j)) (amount_extreme.bounds s (omega arith) (le-leb 1 s k))

    -- ".. the smaller when two tie"
    pub amount_first : (s : ℕ) → 1 ≤ s → s < amount P a i j → objective P (at (moved P a i j (amount P a i j))) <ℤ objective P (at (moved P a i j s))
    amount_first s k l = lt_z_true (after (amount P a i j)) (after s) (amount_extreme.lowest s l (le-leb 1 s k))

    -- ---- how it is found
    -- t is the amount where 2 t × η is below 2 g + η and, unless t is the room, at least 2 g − η
    pub amount_determined : (t : ℕ) → 1 ≤ t → t ≤ room P a i j → (pos (2 * t) *ℤ curvature P i j) <ℤ (pos 2 *ℤ slope P a i j +ℤ curvature P i j) → (t < room P a i j → (pos 2 *ℤ slope P a i j) ≤ℤ (pos (2 * t) *ℤ curvature P i j +ℤ curvature P i j)) → amount P a i j ≡ t
    unfolding amount
    amount_determined t one fits below above =
        ap (λ o. get_or o 0)
        (extreme_complete lt_z lt_z_strict (leb 1) after
        (record {
          within = omega arith;
          passes = le-leb 1 t one;
          bounds = λ s l p. ≤ℤ-lt_z (no_better s (omega arith) (dec_lt s t) (dec_lt t s));
          lowest = λ s l p. <ℤ-lt_z (lower s l);
        }))
      where
        nonneg : pos 0 ≤ℤ curvature P i j
        nonneg = curvature_nonneg P gram i j i_within j_within

        lower_by : (s d : ℕ) → t ≡ s + d → 1 ≤ d → after (s + d) <ℤ after s
        lower_by s d e k =
            let b : (pos (2 * (s + d)) *ℤ curvature P i j +ℤ pos 1) ≤ℤ (pos 2 *ℤ slope P a i j +ℤ curvature P i j) =
            succeeds (subst (λ p. (pos (2 * p) *ℤ curvature P i j) <ℤ (pos 2 *ℤ slope P a i j +ℤ curvature P i j)) e below)
            in
            let o : pos 1 ≤ℤ pos d = omega (arith, integer) in
            let n = nonneg in
            let c : (pos (2 * s + d) *ℤ curvature P i j +ℤ pos 1) ≤ℤ (pos 2 *ℤ slope P a i j) =
            certificate (pos s ∷ pos d ∷ curvature P i j ∷ slope P a i j ∷ []) ((con (pos 2) ⊗ x₀ ⊕ x₁) ⊗ x₂ ⊕ con (pos 1)) (con (pos 2) ⊗ x₃)
            (con (pos 2) ⊗ x₃ ⊕ x₂ ⊖ (con (pos 2) ⊗ (x₀ ⊕ x₁) ⊗ x₂ ⊕ con (pos 1)) ⊕ (x₁ ⊖ con (pos 1)) ⊗ x₂) refl (search positivity)
            in
            more_lowers apart s d (omega arith) k (omega (arith, integer, +ℤ_parts (pos (2 * s + d) *ℤ curvature P i j) (pos 1)))
          where
            succeeds : {p q : ℤ} → p <ℤ q → (p +ℤ pos 1) ≤ℤ q
            succeeds {p} {q} h = omega (arith, integer, +ℤ_parts p (pos 1))

        lower : (s : ℕ) → s < t → after t <ℤ after s
        lower s l =
            let e : t ≡ s + (t - s) = omega arith in
            subst (λ p. after p <ℤ after s) (sym e) (lower_by s (t - s) e (omega arith))

        higher_by : (d : ℕ) → 1 ≤ d → t + d ≤ room P a i j → after t ≤ℤ after (t + d)
        higher_by d k l =
            let b = above (omega arith) in
            let o : pos 1 ≤ℤ pos d = omega (arith, integer) in
            let n = nonneg in
            more_raises apart t d l
            (certificate (pos t ∷ pos d ∷ curvature P i j ∷ slope P a i j ∷ []) (con (pos 2) ⊗ x₃) ((con (pos 2) ⊗ x₀ ⊕ x₁) ⊗ x₂)
            (con (pos 2) ⊗ x₀ ⊗ x₂ ⊕ x₂ ⊖ con (pos 2) ⊗ x₃ ⊕ (x₁ ⊖ con (pos 1)) ⊗ x₂) refl (search positivity))

        no_better : (s : ℕ) → s ≤ room P a i j → Dec (s < t) → Dec (t < s) → after t ≤ℤ after s
        no_better s l (yes p) q = <ℤ_to-≤ℤ (lower s p)
        no_better s l (no p) (yes q) =
            let e : s ≡ t + (s - t) = omega arith in
            subst (λ k. after t ≤ℤ after k) (sym e) (higher_by (s - t) (omega arith) (omega arith))
        no_better s l (no p) (no q) =
            let e : s ≡ t = omega arith in
            subst (λ k. after t ≤ℤ after k) (sym e) (≤ℤ_refl (after t))

    -- "where η = 0 it is r"
    pub amount_flat : curvature P i j ≡ pos 0 → amount P a i j ≡ room P a i j
    amount_flat e =
        let r = room P a i j in
        let g = moves_slope P gram a i j i_within j_within (candidate_moves P a i j h) in
        let z : pos (2 * r) *ℤ curvature P i j ≡ pos 0 = ap (λ w. pos (2 * r) *ℤ w) e ∙ *ℤ-zero (pos (2 * r)) in
        amount_determined r some_room (le_refl r)
        (omega (arith, integer, *ℤ_parts (pos 2) (slope P a i j), +ℤ_parts (pos 2 *ℤ slope P a i j) (curvature P i j)))
        (λ l. absurd (omega arith))

    -- elsewhere it is ⌈(2 g − η) / 2 η⌉, or r where that is less
    pub amount_curved : (η g : ℕ) → curvature P i j ≡ pos η → slope P a i j ≡ pos g → 1 ≤ η → amount P a i j ≡ min (room P a i j) ((2 * g + η - 1) / (2 * η))
    amount_curved η g e f positive =
        amount_determined t (omega (arith, some_room, at_least_one)) (omega arith)
        (subst₂ (λ z w. (pos (2 * t) *ℤ z) <ℤ (pos 2 *ℤ w +ℤ z)) (sym e) (sym f) below)
        (λ l. subst₂ (λ z w. (pos 2 *ℤ w) ≤ℤ (pos (2 * t) *ℤ z +ℤ z)) (sym e) (sym f) (above l))
      where
        q : ℕ
        q = (2 * g + η - 1) / (2 * η)

        t : ℕ
        t = min (room P a i j) q

        moving : η < 2 * g
        moving =
            let m = subst₂ (λ z w. z <ℤ (pos 2 *ℤ w)) e f (lt_z_true (curvature P i j) (pos 2 *ℤ slope P a i j) (candidate_moves P a i j h)) in
            omega (arith, integer)

        at_least_one : 1 ≤ q
        at_least_one = (le-div_iff_mul-le {k = 2 * η} {x = 1} {y = 2 * g + η - 1} (omega arith)).1 (omega (arith, moving))

        below : (pos (2 * t) *ℤ pos η) <ℤ (pos 2 *ℤ pos g +ℤ pos η)
        below = omega (arith, integer, mul-le-mul_right (2 * η) (min-le_right (room P a i j) q), div-mul-le_self (2 * g + η - 1) (2 * η))

        above : t < room P a i j → (pos 2 *ℤ pos g) ≤ℤ (pos (2 * t) *ℤ pos η +ℤ pos η)
        above l =
            let e : t ≡ q = omega arith in
            let d : 2 * g + η - 1 < q * (2 * η) + 2 * η = lt-div-mul-add (omega arith) in
            omega (arith, integer, ap (λ k. k * (2 * η)) e)

    -- ---- a move lowers the objective by 1 at least: the amount is as good as 1, which changes it by η − 2 g
    pub amount_lowers : objective P (at (moved P a i j (amount P a i j))) ≤ℤ (objective P (at a) -ℤ pos 1)
    amount_lowers =
        let l = amount_least 1 (le_refl 1) some_room in
        let m = lt_z_true (curvature P i j) (pos 2 *ℤ slope P a i j) (candidate_moves P a i j h) in
        let e : after 1 ≡ objective P (at a) +ℤ (pos 1 *ℤ curvature P i j -ℤ pos 2 *ℤ slope P a i j) = moved_objective P a i j i_within j_within apart long 1 some_room gram in
        omega (arith, integer, -ℤ-parts (objective P (at a)) (pos 1), *ℤ_parts (pos 1) (curvature P i j), -ℤ-parts (pos 1 *ℤ curvature P i j) (pos 2 *ℤ slope P a i j), +ℤ_parts (objective P (at a)) (pos 1 *ℤ curvature P i j -ℤ pos 2 *ℤ slope P a i j))
