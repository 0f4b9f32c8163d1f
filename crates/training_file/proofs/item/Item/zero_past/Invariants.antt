-- `training_file::item::Item::zero_past` meets its contract. The loop's invariant: `end` is past the last of the places passed that is not 0.
-- Assumes nothing.
use mathlib.Core.Path.{◌≡◌}
use mathlib.Core.Bool.{Bool, true, false}
use mathlib.Core.List.{List}
use Prim.Native.Nat.{ℕ, suc, ◌≤◌, ◌<◌}
use lib.IntN.{ℤ, pos}
use lib.ListN.{get_or}
use Rattle.integers.specs.Zero.{is_zero}
use Rattle.training_file.proofs.item.Item.zero_past.Given as goal

abbrev pub zero_at : List ℤ → ℕ → Bool
zero_at features i = is_zero (get_or features i (pos 0))

-- `end` is past the last of the first i places that is not 0: from there on they hold 0, and the place before, where there is one, does not
abbrev pub Ends : List ℤ → (end i : ℕ) → Type 0
Ends features end i =
    (end ≤ i) × ((k : ℕ) → k < i → end ≤ k → zero_at features k ≡ true) × ((k : ℕ) → suc k ≡ end → zero_at features k ≡ false)

abbrev pub invariant-loop-i : goal.invariant-loop-i
invariant-loop-i l = Ends l.feature-items l.end l.i
