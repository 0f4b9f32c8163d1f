-- Laws of items and of lists of items. Assumes nothing.
use mathlib.Core.Path.{◌≡◌, refl, sym}
use mathlib.Core.Bool.{Bool, true, false, and-false}
use mathlib.Core.List.{List, [], ◌∷◌}
use Prim.Native.Nat.{ℕ, suc, ◌+◌, ◌-◌, ◌≤◌, ◌<◌, suc-le-suc}
use native.Mathlib.Decide.{dec_lt}
use native.Mathlib.Omega.{arith}
use lib.Dec.{leb, eqb, lit≤}
use lib.IntN.{ℤ, pos, negsuc, neg_ℤ, nat_abs}
use lib.ListN.{length, get_or, get_or-eq_default}
use lib.Signed.{le_z}
use borrow.Author.Tests.{le-leb, lt-leb, leb-true, eqb-true, eqb-false}
use Rattle.integers.specs.Zero.{is_zero}
use Rattle.integers.proofs.Laws.Truth.{&&_both, &&_left, &&_right}
use Rattle.integers.proofs.Laws.Zero.{is_zero_true}
use Rattle.integers.proofs.Laws.Places.{all_holds}
use Rattle.training_file.specs.declared.item.Label.{Label}
use Rattle.training_file.specs.declared.item.Label.TheVariants.{LookedUp, PassedOver}
use Rattle.training_file.specs.declared.item.Item.{Item}
use Rattle.training_file.specs.Layout.{feature_count}
use Rattle.training_file.specs.Item.{both_labels, byte_of_label, feature_allowed, feature_most, features_allowed, each_feature_allowed, item_in, label_allowed, label_of_byte, labelled, same, zero_past}
use Rattle.training_file.proofs.Laws.Parameters.{within_both}

-- ---- labels

-- a label has an allowed byte, and each of the two is the other's
pub label_byte_allowed : (label : Label) → label_allowed (byte_of_label label) ≡ true
label_byte_allowed LookedUp = refl
label_byte_allowed PassedOver = refl

pub label_back : (label : Label) → label_of_byte (byte_of_label label) ≡ label
label_back LookedUp = refl
label_back PassedOver = refl

pub label_byte_back : (byte : ℕ) → label_allowed byte ≡ true → byte_of_label (label_of_byte byte) ≡ byte
label_byte_back byte h = by (eqb byte 1) refl
  where
    by : (t : Bool) → eqb byte 1 ≡ t → byte_of_label (label_of_byte byte) ≡ byte
    by true e = rw e (sym (eqb-true byte 1 e))
    by false e = let other = eqb-false byte 1 e in let range = within_both 1 2 byte h in rw e (omega arith)

pub same_most : (a b : Label) → same a b ≤ 1
same_most LookedUp LookedUp = lit≤ tt
same_most LookedUp PassedOver = lit≤ tt
same_most PassedOver LookedUp = lit≤ tt
same_most PassedOver PassedOver = lit≤ tt

-- ---- features

-- the range as one bound of the magnitude
pub feature_most_lem : (z : ℤ) → feature_allowed z ≡ true → nat_abs z ≤ feature_most
feature_most_lem (pos n) h = leb-true n feature_most (&&_both (le_z (neg_ℤ (pos feature_most)) (pos n)) (leb n feature_most) h).1
feature_most_lem (negsuc n) h = omega (arith, leb-true n (feature_most - 1) (&&_both (le_z (neg_ℤ (pos feature_most)) (negsuc n)) true h).0)

module _ (d : ℕ) (features : List ℤ) (allowed : features_allowed d features ≡ true) (sixteen : length features ≡ feature_count) where
  -- a place of the sixteen, by the rule; past them a list reads 0
  in_range : (i : ℕ) → i < feature_count → feature_allowed (get_or features i (pos 0)) ≡ true
  unfolding features_allowed
  in_range i h = all_holds (λ k. feature_allowed (get_or features k (pos 0))) feature_count (&&_left (each_feature_allowed features) (zero_past d features) allowed) i h

  zero : (k : ℕ) → k < feature_count - d → is_zero (get_or features (d + k) (pos 0)) ≡ true
  unfolding features_allowed
  zero k h = all_holds (λ k. is_zero (get_or features (d + k) (pos 0))) (feature_count - d) (&&_right (each_feature_allowed features) (zero_past d features) allowed) k h

  past_sixteen : (i : ℕ) → feature_count ≤ i → get_or features i (pos 0) ≡ pos 0
  past_sixteen i h = get_or-eq_default features (pos 0) {n = i} (omega arith)

  -- past d it is 0
  pub features_past : (i : ℕ) → d ≤ i → get_or features i (pos 0) ≡ pos 0
  features_past i h = by (dec_lt i feature_count)
    where
      by : Dec (i < feature_count) → get_or features i (pos 0) ≡ pos 0
      by (yes l) = let e : d + (i - d) ≡ i = omega arith in is_zero_true (get_or features i (pos 0)) (rw e at (zero (i - d) (omega arith)))
      by (no l) = past_sixteen i (omega arith)

  -- everywhere it is in its range
  pub features_most : (i : ℕ) → nat_abs (get_or features i (pos 0)) ≤ feature_most
  features_most i = by (dec_lt i feature_count)
    where
      by : Dec (i < feature_count) → nat_abs (get_or features i (pos 0)) ≤ feature_most
      by (yes l) = feature_most_lem (get_or features i (pos 0)) (in_range i l)
      by (no l) = rw (past_sixteen i (omega arith)) (omega arith)

-- ---- lists of items

same_sum : (label : Label) → same LookedUp label + same PassedOver label ≡ 1
same_sum LookedUp = refl
same_sum PassedOver = refl

pub labels_sum : (items : List Item) → labelled LookedUp items + labelled PassedOver items ≡ length items
unfolding labelled
labels_sum [] = refl
labels_sum (item ∷ items) = let e = labels_sum items in let s = same_sum item.label in omega arith

-- a label that some item has stands at some place
labelled_at : (label : Label) (items : List Item) → 1 ≤ labelled label items → (k : ℕ) × (k < length items) × ((item_in items k).label ≡ label)
unfolding labelled
labelled_at label [] h = absurd (omega arith)
labelled_at label (item ∷ items) h = here label item.label refl (labelled_at label items) h
  where
    here : (a b : Label) → item.label ≡ b
        → (1 ≤ labelled a items → (k : ℕ) × (k < length items) × ((item_in items k).label ≡ a))
        → 1 ≤ same a b + labelled a items → (k : ℕ) × (k < suc (length items)) × ((item_in (item ∷ items) k).label ≡ a)
    here LookedUp LookedUp e rest l = (0, omega arith, e)
    here PassedOver PassedOver e rest l = (0, omega arith, e)
    here LookedUp PassedOver e rest l = let r = rest (omega arith) in (suc r.0, suc-le-suc r.1, r.2)
    here PassedOver LookedUp e rest l = let r = rest (omega arith) in (suc r.0, suc-le-suc r.1, r.2)

-- refusal 5 by the number of items looked up
module _ (items : List Item) where
  pub labels_none : labelled LookedUp items ≡ 0 → both_labels items ≡ false
  labels_none e = rw e

  pub labels_all : labelled LookedUp items ≡ length items → both_labels items ≡ false
  labels_all e =
      rw (lt-leb 1 (labelled PassedOver items) (omega (arith, labels_sum items))) (and-false (leb 1 (labelled LookedUp items)))

  pub labels_both : (labelled LookedUp items ≡ 0 → ⊥) → (labelled LookedUp items ≡ length items → ⊥) → both_labels items ≡ true
  labels_both z a =
      rw (le-leb 1 (labelled LookedUp items) (omega arith), le-leb 1 (labelled PassedOver items) (omega (arith, labels_sum items)))

  -- where both labels have an item, each stands at some place
  module _ (both : both_labels items ≡ true) where
    some_labelled : (label : Label) → 1 ≤ labelled label items
    some_labelled LookedUp = leb-true 1 (labelled LookedUp items) (&&_left (leb 1 (labelled LookedUp items)) (leb 1 (labelled PassedOver items)) both)
    some_labelled PassedOver = leb-true 1 (labelled PassedOver items) (&&_right (leb 1 (labelled LookedUp items)) (leb 1 (labelled PassedOver items)) both)

    pub labels_at : (label : Label) → (k : ℕ) × (k < length items) × ((item_in items k).label ≡ label)
    labels_at label = labelled_at label items (some_labelled label)
