-- Laws of the step: the room is the largest amount, a move within it keeps the multipliers feasible, and what it does to the gradients
-- and to the objective; which pairs can move. Assumes nothing.
pub mod Amount
pub mod Row
pub mod WorkingPair
use mathlib.Core.Path.{◌≡◌, refl, sym, ◌∙◌, ap, subst}
use mathlib.Core.Logic.{◌↔◌}
use mathlib.Core.Bool.{true, false, ◌&&◌}
use mathlib.Core.List.{List}
use Prim.Native.Nat.{ℕ, ◌+◌, ◌*◌, ◌-◌, ◌≤◌, ◌<◌, min}
use native.Mathlib.Decide.{ℕ_discrete}
use native.Mathlib.Omega.{arith}
use borrow.Author.Tests.{ltb-true}
use lib.IntN.{pos, negsuc, ◌+ℤ◌, ◌-ℤ◌, ◌*ℤ◌}
use lib.ListN.{length, set, length-set}
use lib.Seq.{get_or-set_same, get_or-set_other, lt-length-set}
use lib.Signed.{◌≤ℤ◌, ◌<ℤ◌, ≤ℤ_refl}
use Rattle.integers.proofs.Laws.Truth.{&&_true, &&_left, &&_right, clash}
use Rattle.integers.proofs.Laws.Linear.{integer, +ℤ_parts, -ℤ-parts, *ℤ_parts}
use Rattle.integers.proofs.Laws.Order.{lt_z_true, ≤ℤ-lt_z}
use Rattle.integers.specs.Range.{InRange}
use Rattle.integers.specs.Gram.{Gram}
use Rattle.integers.proofs.Laws.Gram.{distance_nonneg}
use Rattle.training_file.specs.declared.item.Label.{Label}
use Rattle.training_file.specs.declared.item.Label.TheVariants.{LookedUp, PassedOver}
use Rattle.training_file.specs.Item.{opposite}
use Rattle.dual_problem.specs.Problem.{Problem, Feasible, sign, y, gradient, in_up, in_low, up, low, objective, at}
use Rattle.working_pair.specs.Step.{slope, curvature, moves, lowered, raised, moved, fall, rise, room, candidate}
use Rattle.working_pair.specs.Move.{Move}
use Rattle.working_pair.proofs.Laws.Move.{move_balanced, move_gradient, move_objective}

-- ---- at a place: a multiplier a of a ceiling c, moved by s
module _ (a c s : ℕ) where
  -- lowering and falling, label by label
  pub lowered_looked_up : lowered LookedUp a s ≡ a - s
  lowered_looked_up = refl

  pub lowered_passed_over : lowered PassedOver a s ≡ a + s
  lowered_passed_over = refl

  pub fall_looked_up : fall LookedUp a c ≡ a
  fall_looked_up = refl

  pub fall_passed_over : fall PassedOver a c ≡ c - a
  fall_passed_over = refl

  -- a × y rises or falls by s
  raised_signed : (l : Label) → s ≤ rise l a c → pos (raised l a s) *ℤ sign l ≡ pos a *ℤ sign l +ℤ pos s
  raised_signed LookedUp h = omega (arith, integer, +ℤ_parts (pos a *ℤ pos 1) (pos s))
  raised_signed PassedOver h = omega (arith, integer, *ℤ_parts (pos (a - s)) (negsuc 0), *ℤ_parts (pos a) (negsuc 0), +ℤ_parts (pos a *ℤ negsuc 0) (pos s))

  lowered_signed : (l : Label) → s ≤ fall l a c → pos (lowered l a s) *ℤ sign l ≡ pos a *ℤ sign l -ℤ pos s
  lowered_signed LookedUp h = omega (arith, integer, -ℤ-parts (pos a *ℤ pos 1) (pos s))
  lowered_signed PassedOver h = omega (arith, integer, *ℤ_parts (pos (a + s)) (negsuc 0), *ℤ_parts (pos a) (negsuc 0), -ℤ-parts (pos a *ℤ negsuc 0) (pos s))

  module _ (inside : a ≤ c) where
    -- within how far it can fall, or rise, the multiplier stays at or below its ceiling
    pub raised_within : (l : Label) → s ≤ rise l a c → raised l a s ≤ c
    raised_within LookedUp h = omega arith
    raised_within PassedOver h = omega arith

    pub lowered_within : (l : Label) → s ≤ fall l a c → lowered l a s ≤ c
    lowered_within l h = raised_within (opposite l) h

    -- how far a × y can fall, and how far it can rise, such that the multiplier, y × (a × y ∓ s), stays in 0 to c
    fall_largest : (l : Label) → (s ≤ fall l a c) ↔ InRange (sign l *ℤ (pos a *ℤ sign l -ℤ pos s)) c
    fall_largest LookedUp = omega (arith, integer, *ℤ_parts (pos 1) (pos a *ℤ pos 1 -ℤ pos s), -ℤ-parts (pos a *ℤ pos 1) (pos s))
    fall_largest PassedOver =
        omega (arith, integer, *ℤ_parts (negsuc 0) (pos a *ℤ negsuc 0 -ℤ pos s), -ℤ-parts (pos a *ℤ negsuc 0) (pos s), *ℤ_parts (pos a) (negsuc 0))

    rise_largest : (l : Label) → (s ≤ rise l a c) ↔ InRange (sign l *ℤ (pos a *ℤ sign l +ℤ pos s)) c
    rise_largest LookedUp = omega (arith, integer, *ℤ_parts (pos 1) (pos a *ℤ pos 1 +ℤ pos s), +ℤ_parts (pos a *ℤ pos 1) (pos s))
    rise_largest PassedOver =
        omega (arith, integer, *ℤ_parts (negsuc 0) (pos a *ℤ negsuc 0 +ℤ pos s), +ℤ_parts (pos a *ℤ negsuc 0) (pos s), *ℤ_parts (pos a) (negsuc 0))

-- how far it can fall, or rise, is at most the ceiling
pub rise_bound : (l : Label) (a c : ℕ) → a ≤ c → rise l a c ≤ c
rise_bound LookedUp a c inside = omega arith
rise_bound PassedOver a c inside = inside

pub fall_bound : (l : Label) (a c : ℕ) → a ≤ c → fall l a c ≤ c
fall_bound l a c inside = rise_bound (opposite l) a c inside

-- what is in the up set can rise, what is in the low set can fall
pub up_rises : (l : Label) (a c : ℕ) → in_up l a c ≡ true → 1 ≤ rise l a c
up_rises LookedUp a c h = omega (arith, ltb-true a c h)
up_rises PassedOver a c h = ltb-true 0 a h

pub low_falls : (l : Label) (a c : ℕ) → in_low l a c ≡ true → 1 ≤ fall l a c
low_falls l a c h = up_rises (opposite l) a c h

-- ---- the moved multipliers
pub moved_length : (P : Problem) (a : List ℕ) (i j s : ℕ) → length (moved P a i j s) ≡ length a
moved_length P a i j s = length-set (set a i (lowered (P.label i) (at a i) s)) j (raised (P.label j) (at a j) s) ∙ length-set a i (lowered (P.label i) (at a i) s)

module _ (P : Problem) (a : List ℕ) (i j : ℕ) where
  -- "r is the largest s that keeps both in 0 to c"
  pub room_largest : (s : ℕ) → at a i ≤ P.ceiling i → at a j ≤ P.ceiling j → (s ≤ room P a i j) ↔ (InRange (y P i *ℤ (pos (at a i) *ℤ y P i -ℤ pos s)) (P.ceiling i) × InRange (y P j *ℤ (pos (at a j) *ℤ y P j +ℤ pos s)) (P.ceiling j))
  room_largest s h k =
      let f = fall_largest (at a i) (P.ceiling i) s h (P.label i) in
      let g = rise_largest (at a j) (P.ceiling j) s k (P.label j) in
      (λ r. (f.0 (omega arith), g.0 (omega arith)), λ r. meets (f.1 r.0) (g.1 r.1))
    where
      meets : {s p q : ℕ} → s ≤ p → s ≤ q → s ≤ min p q
      meets h k = omega arith

  -- the room is at most the ceiling
  pub room_bound : at a i ≤ P.ceiling i → room P a i j ≤ P.ceiling i
  room_bound h = omega (arith, fall_bound (P.label i) (at a i) (P.ceiling i) h)

  -- a pair of the low set and the up set can move by 1
  pub room_positive : low P (at a) i ≡ true → up P (at a) j ≡ true → 1 ≤ room P a i j
  room_positive h k = omega (arith, low_falls (P.label i) (at a i) (P.ceiling i) h, up_rises (P.label j) (at a j) (P.ceiling j) k)

  module _ (i_within : i < P.count) (j_within : j < P.count) (apart : ¬ (i ≡ j)) (long : P.count ≤ length a) where
    -- the multiplier of each place
    pub moved_i : (s : ℕ) → at (moved P a i j s) i ≡ lowered (P.label i) (at a i) s
    moved_i s = get_or-set_other (set a i (lowered (P.label i) (at a i) s)) j i (raised (P.label j) (at a j) s) 0 apart ∙ get_or-set_same a i (lowered (P.label i) (at a i) s) 0 (omega arith)

    pub moved_j : (s : ℕ) → at (moved P a i j s) j ≡ raised (P.label j) (at a j) s
    moved_j s =
        get_or-set_same (set a i (lowered (P.label i) (at a i) s)) j (raised (P.label j) (at a j) s) 0
        (lt-length-set a i (lowered (P.label i) (at a i) s) (omega arith))

    pub moved_other : (s k : ℕ) → ¬ (k ≡ i) → ¬ (k ≡ j) → at (moved P a i j s) k ≡ at a k
    moved_other s k c d =
        get_or-set_other (set a i (lowered (P.label i) (at a i) s)) j k (raised (P.label j) (at a j) s) 0 d
        ∙ get_or-set_other a i k (lowered (P.label i) (at a i) s) 0 c

    module _ (s : ℕ) (in_room : s ≤ room P a i j) where
      -- it is the move that document 01 speaks of
      pub moved_move : Move P (at a) (at (moved P a i j s)) i j s
      moved_move =
          record {
            i_within = i_within;
            j_within = j_within;
            apart = apart;
            lowers = ap (λ w. pos w *ℤ y P i) (moved_i s) ∙ lowered_signed (at a i) (P.ceiling i) s (P.label i) (omega arith);
            raises = ap (λ w. pos w *ℤ y P j) (moved_j s) ∙ raised_signed (at a j) (P.ceiling j) s (P.label j) (omega arith);
            keeps = λ k l c d. moved_other s k c d;
          }

      -- the multipliers stay feasible
      pub moved_feasible : Feasible P (at a) → Feasible P (at (moved P a i j s))
      moved_feasible f = record { within = λ k l. within k l (ℕ_discrete k i) (ℕ_discrete k j); balanced = move_balanced moved_move ∙ f.balanced }
        where
          within : (k : ℕ) → k < P.count → Dec (k ≡ i) → Dec (k ≡ j) → at (moved P a i j s) k ≤ P.ceiling k
          within k l (yes e) d =
              subst (λ p. at (moved P a i j s) p ≤ P.ceiling p) (sym e)
              (omega (arith, moved_i s, lowered_within (at a i) (P.ceiling i) s (f.within i i_within) (P.label i) (omega arith)))
          within k l (no c) (yes e) =
              subst (λ p. at (moved P a i j s) p ≤ P.ceiling p) (sym e)
              (omega (arith, moved_j s, raised_within (at a j) (P.ceiling j) s (f.within j j_within) (P.label j) (omega arith)))
          within k l (no c) (no d) = omega (arith, moved_other s k c d, f.within k l)

      module _ (gram : Gram P.count P.kernel) where
        -- how a program keeps the gradients up to date
        pub moved_gradient : (k : ℕ) → k < P.count → gradient P (at (moved P a i j s)) k ≡ gradient P (at a) k +ℤ pos s *ℤ (P.kernel j k -ℤ P.kernel i k)
        moved_gradient = move_gradient moved_move gram

        -- a move by s changes the objective by s² × η − 2 × s × g
        pub moved_objective : objective P (at (moved P a i j s)) ≡ objective P (at a) +ℤ (pos (s * s) *ℤ curvature P i j -ℤ pos 2 *ℤ pos s *ℤ slope P a i j)
        moved_objective = move_objective moved_move gram

-- ---- which pairs can move
module _ (P : Problem) (gram : Gram P.count P.kernel) where
  -- η is a squared distance
  pub curvature_nonneg : (i j : ℕ) → i < P.count → j < P.count → pos 0 ≤ℤ curvature P i j
  curvature_nonneg i j l k = distance_nonneg gram i j l k

  module _ (a : List ℕ) (i j : ℕ) (i_within : i < P.count) (j_within : j < P.count) where
    -- no pair with G_i ≤ G_j moves, so that its kernel values need not be worked out
    pub moves_needs_slope : gradient P (at a) i ≤ℤ gradient P (at a) j → moves P a i j ≡ false
    moves_needs_slope h =
        let n = curvature_nonneg i j i_within j_within in
        let b : (pos 2 *ℤ slope P a i j) ≤ℤ curvature P i j = omega (arith, integer, *ℤ_parts (pos 2) (slope P a i j), -ℤ-parts (gradient P (at a) i) (gradient P (at a) j)) in
        ≤ℤ-lt_z b

    -- so a pair that moves has G_j < G_i
    pub moves_slope : moves P a i j ≡ true → pos 0 <ℤ slope P a i j
    moves_slope h =
        let n = curvature_nonneg i j i_within j_within in
        let m = lt_z_true (curvature P i j) (pos 2 *ℤ slope P a i j) h in
        omega (arith, integer, *ℤ_parts (pos 2) (slope P a i j))

  -- a pair that moves has two places
  pub moves_apart : (a : List ℕ) (i j : ℕ) → i < P.count → j < P.count → moves P a i j ≡ true → ¬ (i ≡ j)
  moves_apart a i j l k h e = clash h (moves_needs_slope a i j l k (subst (λ p. gradient P (at a) i ≤ℤ gradient P (at a) p) e (≤ℤ_refl (gradient P (at a) i))))

-- ---- candidates: what makes one, and what it is made of
module _ (P : Problem) (a : List ℕ) (i j : ℕ) where
  pub candidate_made : low P (at a) i ≡ true → up P (at a) j ≡ true → moves P a i j ≡ true → candidate P a i j ≡ true
  candidate_made h k m = &&_true (&&_true h k) m

  module _ (h : candidate P a i j ≡ true) where
    pub candidate_low : low P (at a) i ≡ true
    candidate_low = &&_left (low P (at a) i) (up P (at a) j) (&&_left (low P (at a) i && up P (at a) j) (moves P a i j) h)

    pub candidate_up : up P (at a) j ≡ true
    candidate_up = &&_right (low P (at a) i) (up P (at a) j) (&&_left (low P (at a) i && up P (at a) j) (moves P a i j) h)

    pub candidate_moves : moves P a i j ≡ true
    candidate_moves = &&_right (low P (at a) i && up P (at a) j) (moves P a i j) h
