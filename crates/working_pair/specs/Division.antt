-- How the code finds the amount of a move: by one division, from numbers that it has of the pair. That this is the amount of document 01 is
-- in proofs/Laws/Division.antt. Assumes nothing.
use Rattle.std.specs.Prelude.{cond, List, ℕ, ◌+◌, ◌-◌, ◌*◌, ◌/◌, ◌≤◌, min, eqb, ℤ, pos, nat_abs, ◌≤ℤ◌}
use Rattle.training_file.specs.declared.parameters.Parameters.{Parameters}
use Rattle.training_file.specs.Layout.{feature_count}
use Rattle.dual_problem.specs.Size.{gradient_most}
use Rattle.dual_problem.specs.declared.problem.FileProblem.{FileProblem}
use Rattle.dual_problem.specs.Problem.{ceiling_of, at}
use Rattle.dual_problem.specs.Given.{item_at}
use Rattle.working_pair.specs.declared.amount.Holding.{Holding}
use Rattle.working_pair.specs.Step.{fall, rise}
use Rattle.working_pair.specs.Curvature.{curvature_between}

-- ⌈(2 g − η) / 2 η⌉, the whole number nearest to g / η and the lower one of two, or the room r where that is less; r where η is 0
abbrev pub divided : ℕ → ℕ → ℕ → ℕ
divided g η r = cond (eqb η 0) r (min r ((2 * g + η - 1) / (2 * η)))

-- the item at a place with its multiplier
abbrev pub holding_at : FileProblem → List ℕ → ℕ → Holding
holding_at f a i = record { item = item_at f i; multiplier = at a i }

-- the ceiling of an item, by its label
abbrev pub ceiling_at : Parameters → Holding → ℕ
ceiling_at p x = ceiling_of p x.item.label

-- the multiplier is not above the ceiling of its item
abbrev pub Within : Parameters → Holding → Type 0
Within p x = x.multiplier ≤ ceiling_at p x

-- "r is the largest s that keeps both in 0 to c", of two items with their multipliers
abbrev pub room_between : Parameters → Holding → Holding → ℕ
room_between p x z = min (fall x.item.label x.multiplier (ceiling_at p x)) (rise z.item.label z.multiplier (ceiling_at p z))

-- the amount of a pair's move, from the two items with their multipliers and g
abbrev pub amount_between : Parameters → Holding → Holding → ℤ → ℕ
amount_between p x z g = divided (nat_abs g) (nat_abs (curvature_between p x.item.features z.item.features)) (room_between p x z)

-- two items with their multipliers, whose g is known: neither multiplier is above its ceiling, and neither g nor η negative
pub record PairGiven (p : Parameters) (x z : Holding) (g : ℤ) : Type 0 where
  pub used : p.used ≤ feature_count
  pub x_within : Within p x
  pub z_within : Within p z
  pub slope_nonneg : pos 0 ≤ℤ g
  pub slope_size : nat_abs g ≤ 2 * gradient_most
  pub curvature_nonneg : pos 0 ≤ℤ curvature_between p x.item.features z.item.features
