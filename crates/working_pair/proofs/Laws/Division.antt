-- The division gives the amount of a pair that moves. Assumes nothing.
use mathlib.Core.Path.{◌≡◌, refl, sym, ◌∙◌, ap}
use mathlib.Core.Bool.{true, cond}
use mathlib.Core.List.{List}
use Prim.Native.Nat.{ℕ, ◌+◌, ◌-◌, ◌*◌, ◌/◌, ◌≤◌, ◌<◌, min}
use native.Mathlib.Decide.{ℕ_discrete}
use native.Mathlib.Omega.{arith}
use borrow.Author.Tests.{eq-eqb, ne_eqb}
use lib.IntN.{ℤ, pos, negsuc, nat_abs}
use lib.ListN.{length}
use lib.Signed.{◌≤ℤ◌}
use Rattle.integers.specs.Gram.{Gram}
use Rattle.integers.proofs.Laws.Order.{<ℤ_to-≤ℤ}
use Rattle.dual_problem.specs.Problem.{Problem}
use Rattle.working_pair.specs.Step.{slope, curvature, room, amount, candidate}
use Rattle.working_pair.proofs.Laws.Step.{curvature_nonneg, moves_slope, candidate_moves}
use Rattle.working_pair.proofs.Laws.Step.Amount.{amount_flat, amount_curved}
use Rattle.working_pair.specs.Division.{divided}

-- a number that isn't negative is its size
pub pos_nat_abs : {z : ℤ} → pos 0 ≤ℤ z → z ≡ pos (nat_abs z)
pos_nat_abs {z = pos n} h = refl
pos_nat_abs {z = negsuc n} h = absurd h.le

-- its two cases
pub divided_flat : (g r : ℕ) {η : ℕ} → η ≡ 0 → divided g η r ≡ r
divided_flat g r {η} e = ap (λ t. cond t r (min r ((2 * g + η - 1) / (2 * η)))) (eq-eqb η 0 e)

pub divided_curved : (g r : ℕ) {η : ℕ} → ¬ (η ≡ 0) → divided g η r ≡ min r ((2 * g + η - 1) / (2 * η))
divided_curved g r {η} e = ap (λ t. cond t r (min r ((2 * g + η - 1) / (2 * η)))) (ne_eqb η 0 e)

module _ (P : Problem) (gram : Gram P.count P.kernel) (a : List ℕ) (long : P.count ≤ length a) (i j : ℕ) (i_within : i < P.count) (j_within : j < P.count) (h : candidate P a i j ≡ true) where
  pub amount_divided : amount P a i j ≡ divided (nat_abs (slope P a i j)) (nat_abs (curvature P i j)) (room P a i j)
  amount_divided = by_curvature (ℕ_discrete (nat_abs (curvature P i j)) 0)
    where
      η_is : curvature P i j ≡ pos (nat_abs (curvature P i j))
      η_is = pos_nat_abs (curvature_nonneg P gram i j i_within j_within)

      g_is : slope P a i j ≡ pos (nat_abs (slope P a i j))
      g_is = pos_nat_abs (<ℤ_to-≤ℤ (moves_slope P gram a i j i_within j_within (candidate_moves P a i j h)))

      by_curvature : Dec (nat_abs (curvature P i j) ≡ 0) → amount P a i j ≡ divided (nat_abs (slope P a i j)) (nat_abs (curvature P i j)) (room P a i j)
      by_curvature (yes e) =
          amount_flat P gram a long i j i_within j_within h (η_is ∙ ap pos e)
          ∙ sym (divided_flat (nat_abs (slope P a i j)) (room P a i j) e)
      by_curvature (no e) =
          amount_curved P gram a long i j i_within j_within h (nat_abs (curvature P i j)) (nat_abs (slope P a i j)) η_is g_is (omega arith)
          ∙ sym (divided_curved (nat_abs (slope P a i j)) (room P a i j) e)
