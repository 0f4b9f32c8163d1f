-- `training_file::item::Item::zero_past` meets its contract. The loop's invariant: `end` is past the last of the places passed that is not 0.
-- Assumes nothing.
use mathlib.Core.Path.{◌≡◌, refl, sym, subst}
use mathlib.Core.Bool.{Bool, true, false}
use mathlib.Core.List.{List}
use Prim.Native.Nat.{ℕ, suc, ◌+◌, ◌-◌}
use native.Mathlib.Omega.{arith}
use borrow.Author.Tests.{leb-true, leb-false}
use lib.Dec.{leb}
use lib.IntN.{ℤ}
use Rattle.integers.proofs.Laws.Places.{all_fails, all_true}
use Rattle.training_file.specs.Layout.{feature_count}
use Rattle.training_file.specs.Item.{zero_past}
use Rattle.training_file.proofs.item.Item.zero_past.Invariants.{zero_at, Ends}
use Rattle.training_file.proofs.item.Item.zero_past.Goals as goal

module _ (features : List ℤ) where
  -- the features past the first d are 0 where `end` is not past these
  ends_decides : (end d : ℕ) → Ends features end feature_count → leb end d ≡ zero_past d features
  ends_decides end d ends = by (leb end d) refl
    where
      past : ℕ → Bool
      past k = zero_at features (d + k)

      by : (t : Bool) → leb end d ≡ t → t ≡ zero_past d features
      by true e = sym (all_true past (feature_count - d) (λ k l. ends.1 (d + k) (omega arith) (omega (arith, leb-true end d e))))
      by false e =
          let l = leb-false end d e in
          let last : suc (d + (end - 1 - d)) ≡ end = omega arith in
          sym (all_fails past (feature_count - d) (end - 1 - d) (omega arith) (ends.2 _ last))

pub returns : goal.returns
returns c =
    let features = c.args.features in
    let all : c.loop-i.i ≡ feature_count = omega arith in
    ends_decides features c.loop-i.end c.args.used (subst (Ends features c.loop-i.end) all c.loop-i.invariant)
