-- The ceiling of a label: what the header's two fields make of it, and its range. Assumes nothing.
use mathlib.Core.Path.{◌≡◌, refl, ap}
use mathlib.Core.Bool.{Bool, true, false, cond}
use mathlib.Core.List.{List}
use Prim.Native.Nat.{ℕ, ◌≤◌, ◌<◌}
use native.Mathlib.Nat.{le_trans}
use native.Mathlib.Omega.{arith}
use borrow.Author.Tests.{eq-eqb, eqb-false, ne_eqb}
use lib.Dec.{eqb}
use lib.ListN.{length}
use Rattle.training_file.specs.declared.parameters.Parameters.{Parameters}
use Rattle.training_file.specs.declared.item.Item.{Item}
use Rattle.training_file.specs.declared.item.Label.{Label}
use Rattle.training_file.specs.declared.item.Label.TheVariants.{LookedUp, PassedOver}
use Rattle.training_file.specs.Parameters.{Ranges, ceiling_most}
use Rattle.training_file.specs.Item.{item_in}
use Rattle.dual_problem.specs.Problem.{Feasible, ceiling_of, problem}

module _ (p : Parameters) where
  -- "0 means the same as c"
  pub ceiling_same : p.second_ceiling ≡ 0 → ceiling_of p PassedOver ≡ p.ceiling
  ceiling_same e = ap (λ t. cond t p.ceiling p.second_ceiling) (eq-eqb p.second_ceiling 0 e)

  pub ceiling_given : (p.second_ceiling ≡ 0 → ⊥) → ceiling_of p PassedOver ≡ p.second_ceiling
  ceiling_given h = ap (λ t. cond t p.ceiling p.second_ceiling) (ne_eqb p.second_ceiling 0 h)

  -- no ceiling is 0, and none is above the highest
  pub ceiling_range : Ranges p → (label : Label) → (1 ≤ ceiling_of p label) × (ceiling_of p label ≤ ceiling_most)
  ceiling_range r LookedUp = (r.ceiling_least, r.ceiling_greatest)
  ceiling_range r PassedOver = by (eqb p.second_ceiling 0) refl
    where
      by : (t : Bool) → eqb p.second_ceiling 0 ≡ t → (1 ≤ ceiling_of p PassedOver) × (ceiling_of p PassedOver ≤ ceiling_most)
      by true e = rw e (r.ceiling_least, r.ceiling_greatest)
      by false e = let other = eqb-false p.second_ceiling 0 e in rw e (omega arith, r.second_ceiling_greatest)

  -- no multiplier of feasible ones is above the highest ceiling
  pub feasible_most : Ranges p → (items : List Item) (a : ℕ → ℕ) → Feasible (problem p items) a → (i : ℕ) → i < length items → a i ≤ ceiling_most
  feasible_most r items a feasible i l = le_trans (feasible.within i l) (ceiling_range r (item_in items i).label).1
