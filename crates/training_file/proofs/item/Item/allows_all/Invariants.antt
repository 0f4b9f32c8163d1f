-- `training_file::item::Item::allows_all` meets its contract. The loop's invariant: each place passed is allowed.
-- Assumes nothing.
use mathlib.Core.Path.{◌≡◌}
use mathlib.Core.Bool.{Bool, true}
use mathlib.Core.List.{List}
use Prim.Native.Nat.{ℕ}
use lib.IntN.{ℤ, pos}
use lib.ListN.{get_or}
use Rattle.integers.specs.Places.{all}
use Rattle.training_file.specs.Item.{feature_allowed}
use Rattle.training_file.proofs.item.Item.allows_all.Given as goal

abbrev pub allowed_at : List ℤ → ℕ → Bool
allowed_at features i = feature_allowed (get_or features i (pos 0))

abbrev pub invariant-loop-feature : goal.invariant-loop-feature
invariant-loop-feature l = all l.feature-index (allowed_at l.feature-items) ≡ true
