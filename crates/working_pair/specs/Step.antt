-- Document 01, "The step": which pair moves, by how much, and which pair is taken. The two thresholds are report CD-99-14's, the pair step
-- is source document 003's; the grid, the rounding and the fallback pair are document 01's. Multipliers are the list a, of which `at a` is
-- the function of the place. Assumes nothing.
use Rattle.std.specs.Prelude.{◌≡◌, Bool, true, false, ◌&&◌, List, ℕ, suc, ◌+◌, ◌-◌, ◌<◌, min, leb, ℤ, pos, ◌+ℤ◌, ◌-ℤ◌, ◌*ℤ◌, set}
use Rattle.std.proofs.Math.Option.{Option, none, some, get_or}
use Rattle.std.specs.Int.Signed.{lt_z}
use Rattle.integers.specs.Extremum.{argmin, argmax, first}
use Rattle.training_file.specs.declared.item.Label.{Label}
use Rattle.training_file.specs.declared.item.Label.TheVariants.{LookedUp, PassedOver}
use Rattle.training_file.specs.Item.{opposite}
use Rattle.dual_problem.specs.Problem.{Problem, gradient, up, low, objective, at}

-- "Take i in the low set and j in the up set, g = G_i − G_j, .."
abbrev pub slope : Problem → List ℕ → ℕ → ℕ → ℤ
slope P a i j = gradient P (at a) i -ℤ gradient P (at a) j

-- ".. η = K_ii + K_jj − 2 × K_ij."
abbrev pub curvature : Problem → ℕ → ℕ → ℤ
curvature P i j = P.kernel i i +ℤ P.kernel j j -ℤ pos 2 *ℤ P.kernel i j

-- "The pair moves if 2 × g > η."
abbrev pub moves : Problem → List ℕ → ℕ → ℕ → Bool
moves P a i j = lt_z (curvature P i j) (pos 2 *ℤ slope P a i j)

-- "A move by s lowers a_i × y_i by s and raises a_j × y_j by s": what becomes of a multiplier. To lower a × y is to raise it under the
-- opposite label
abbrev pub raised : Label → ℕ → ℕ → ℕ
raised LookedUp a s = a + s
raised PassedOver a s = a - s

abbrev pub lowered : Label → ℕ → ℕ → ℕ
lowered label a s = raised (opposite label) a s

-- the multipliers after a move by s of the places i and j, with these labels
abbrev pub moved_pair : List ℕ → ℕ → Label → ℕ → Label → ℕ → List ℕ
moved_pair a i x j z s = set (set a i (lowered x (at a i) s)) j (raised z (at a j) s)

abbrev pub moved : Problem → List ℕ → ℕ → ℕ → ℕ → List ℕ
moved P a i j s = moved_pair a i (P.label i) j (P.label j) s

-- "r is the largest s that keeps both in 0 to c" (`room_largest`): how far a × y can rise, and how far it can fall. Of both, each "the item's own ceiling"
-- (document 02, request (f))
abbrev pub rise : Label → ℕ → ℕ → ℕ
rise LookedUp a c = c - a
rise PassedOver a c = a

abbrev pub fall : Label → ℕ → ℕ → ℕ
fall label a c = rise (opposite label) a c

abbrev pub room : Problem → List ℕ → ℕ → ℕ → ℕ
room P a i j = min (fall (P.label i) (at a i) (P.ceiling i)) (rise (P.label j) (at a j) (P.ceiling j))

-- "The s taken is that of 1 to r with the lowest D, the smaller when two tie; where η = 0 it is r." (With η = 0 it is r of itself:
-- `amount_flat`.)
unfoldable pub amount : Problem → List ℕ → ℕ → ℕ → ℕ
amount P a i j = get_or (argmin (suc (room P a i j)) (leb 1) (λ s. objective P (at (moved P a i j s)))) 0

-- a pair of the low set and the up set that moves
abbrev pub candidate : Problem → List ℕ → ℕ → ℕ → Bool
candidate P a i j = low P (at a) i && up P (at a) j && moves P a i j

-- (i, j) is a pair of places that is a candidate
pub record Candidate (P : Problem) (a : List ℕ) (i j : ℕ) : Type 0 where
  pub i_within : i < P.count
  pub j_within : j < P.count
  pub is_candidate : candidate P a i j ≡ true

-- whether a place was found
abbrev pub some_place : Option ℕ → Bool
some_place none = false
some_place (some j) = true

-- "If it does not move, the pair taken is the first that moves, by rising i, then rising j."
unfoldable pub first_candidate : Problem → List ℕ → Option (ℕ × ℕ)
first_candidate P a =
    elim (first P.count (λ i. some_place (first P.count (candidate P a i)))) [
      | none ↦ none
      | some i ↦ elim (first P.count (candidate P a i)) [ none ↦ none | some j ↦ some (i, j) ]
    ]

-- "The pair tried first is i with G = b_low and j with G = b_up, the lowest position among equals.": i and j by the report's names
abbrev pub i_low : Problem → List ℕ → Option ℕ
i_low P a = argmax P.count (low P (at a)) (gradient P (at a))

abbrev pub i_up : Problem → List ℕ → Option ℕ
i_up P a = argmin P.count (up P (at a)) (gradient P (at a))

-- the pair tried first where it moves, and otherwise the first that does
unfoldable pub working_pair : Problem → List ℕ → Option (ℕ × ℕ)
working_pair P a =
    elim (i_low P a) [
      | none ↦ none
      | some i ↦ elim (i_up P a) [ none ↦ none | some j ↦ elim (moves P a i j) [ true ↦ some (i, j) | false ↦ first_candidate P a ] ]
    ]
