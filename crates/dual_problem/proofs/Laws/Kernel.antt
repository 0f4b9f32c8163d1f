-- What the kernels share, that the values of each are a Gram form, and how large a value can be, over the largest feature. Assumes
-- nothing.
pub mod Smaller
use mathlib.Core.Path.{◌≡◌, refl, sym, ap, subst}
use mathlib.Core.List.{List}
use Prim.Native.Nat.{ℕ, ◌+◌, ◌*◌, ◌≤◌, ◌<◌}
use native.Mathlib.Nat.{le_refl, le_trans}
use native.Mathlib.Omega.{arith}
use lib.IntN.{ℤ, pos, nat_abs, ◌+ℤ◌, ◌*ℤ◌, *ℤ_comm}
use lib.ListN.{length, get_or}
use lib.Signed.{nat_abs-le}
use mir.Facts.{to_z-of_z}
use mir.Syntax.{w8, w32, w64}
use mir.Val.{SFits, to_z, of_z}
use Rattle.integers.proofs.Laws.Bounds.{+ℤ_bound, *ℤ_bound, sum_bound, fits_width, reads_back}
use Rattle.integers.specs.Sum.{sum}
use Rattle.integers.specs.Gram.{Gram}
use Rattle.integers.proofs.Laws.Gram.{gram_one, gram-+, gram-*}
use Rattle.training_file.specs.declared.parameters.Kernel.{Kernel}
use Rattle.training_file.specs.declared.parameters.Kernel.TheVariants.{Linear, Square, Overlap}
use Rattle.training_file.specs.declared.item.Item.{Item}
use Rattle.training_file.specs.Layout.{signed_most}
use Rattle.training_file.specs.Item.{item_in}
use Rattle.dual_problem.specs.Size.{kernel_most}
use Rattle.dual_problem.specs.Kernel.{FeaturesInRange, kernel_value, largest_feature_sum, largest_kernel, linear, over_features, raised_by, raised_feature, smaller_raised, summand}
use Rattle.dual_problem.proofs.Laws.Kernel.Smaller.{overlap_gram, smaller_comm, smaller_either}

-- ---- Gram forms
linear_gram : (d : ℕ) (items : List Item) → Gram (length items) (λ i j. linear d (item_in items i).features (item_in items j).features)
linear_gram d items = record { rank = d; feature = λ p i. get_or (item_in items i).features p (pos 0); entry = λ i j l m. refl }

-- each kernel's values of the items are a Gram form, where the features are in their range
pub kernel_gram : (k : Kernel) (d : ℕ) (items : List Item) → FeaturesInRange items → Gram (length items) (λ i j. kernel_value k d (item_in items i).features (item_in items j).features)
kernel_gram Linear d items range = linear_gram d items
kernel_gram Square d items range = gram-* plus_one plus_one
  where
    plus_one : Gram (length items) (λ i j. linear d (item_in items i).features (item_in items j).features +ℤ pos 1)
    plus_one = gram-+ (linear_gram d items) (gram_one (length items))
kernel_gram Overlap d items range = overlap_gram d items range

-- ---- the two lists
-- either may come first
module _ (f : ℤ → ℤ → ℤ) (f-comm : (x z : ℤ) → f x z ≡ f z x) where
  over_features_comm : (d : ℕ) (xs zs : List ℤ) → over_features f d xs zs ≡ over_features f d zs xs
  over_features_comm d xs zs = λ i. sum d (λ q. f-comm (get_or xs q (pos 0)) (get_or zs q (pos 0)) i)

pub kernel_value_comm : (k : Kernel) (d : ℕ) (xs zs : List ℤ) → kernel_value k d xs zs ≡ kernel_value k d zs xs
kernel_value_comm Linear d xs zs = over_features_comm ◌*ℤ◌ *ℤ_comm d xs zs
kernel_value_comm Square d xs zs = ap (λ v. (v +ℤ pos 1) *ℤ (v +ℤ pos 1)) (over_features_comm ◌*ℤ◌ *ℤ_comm d xs zs)
kernel_value_comm Overlap d xs zs = over_features_comm smaller_raised (λ x z. smaller_comm (raised_feature x) (raised_feature z)) d xs zs

-- what they hold alone counts
over_features_cong : (f : ℤ → ℤ → ℤ) (d : ℕ) (xs ys zs : List ℤ) → ((q : ℕ) → get_or xs q (pos 0) ≡ get_or ys q (pos 0)) → over_features f d xs zs ≡ over_features f d ys zs
over_features_cong f d xs ys zs e = λ i. sum d (λ q. f (e q i) (get_or zs q (pos 0)))

pub kernel_value_cong : (k : Kernel) (d : ℕ) (xs ys zs : List ℤ) → ((q : ℕ) → get_or xs q (pos 0) ≡ get_or ys q (pos 0)) → kernel_value k d xs zs ≡ kernel_value k d ys zs
kernel_value_cong Linear d xs ys zs e = over_features_cong ◌*ℤ◌ d xs ys zs e
kernel_value_cong Square d xs ys zs e = ap (λ v. (v +ℤ pos 1) *ℤ (v +ℤ pos 1)) (over_features_cong ◌*ℤ◌ d xs ys zs e)
kernel_value_cong Overlap d xs ys zs e = over_features_cong smaller_raised d xs ys zs e

-- ---- bounds, where no feature is larger than F, and a raised one no larger than a product
module _ {F : ℕ} (raised-fits : F + raised_by ≤ F * F) where
  pub summand_bound : (k : Kernel) (x z : ℤ) → nat_abs x ≤ F → nat_abs z ≤ F → nat_abs (summand k x z) ≤ F * F
  summand_bound Linear x z x_within z_within = *ℤ_bound x z x_within z_within
  summand_bound Square x z x_within z_within = *ℤ_bound x z x_within z_within
  summand_bound Overlap x z x_within z_within = smaller_either (λ v. nat_abs v ≤ F * F) (raised_feature x) (raised_feature z) (λ h. raised_bound x x_within) (λ h. raised_bound z z_within)
    where
      raised_bound : (v : ℤ) → nat_abs v ≤ F → nat_abs (raised_feature v) ≤ F * F
      raised_bound v within = le_trans (+ℤ_bound v (pos raised_by) within (le_refl raised_by)) raised-fits

  module _ (d : ℕ) (xs zs : List ℤ) (x_within : (p : ℕ) → p < d → nat_abs (get_or xs p (pos 0)) ≤ F) (z_within : (p : ℕ) → p < d → nat_abs (get_or zs p (pos 0)) ≤ F) where
    feature_sum_bound : (k : Kernel) → nat_abs (over_features (summand k) d xs zs) ≤ largest_feature_sum d F
    feature_sum_bound k = sum_bound d (λ p. summand k (get_or xs p (pos 0)) (get_or zs p (pos 0))) (λ p l. summand_bound k (get_or xs p (pos 0)) (get_or zs p (pos 0)) (x_within p l) (z_within p l))

    pub kernel_bound : (k : Kernel) → nat_abs (kernel_value k d xs zs) ≤ largest_kernel d F
    kernel_bound Linear = omega (arith, feature_sum_bound Linear)
    kernel_bound Square = *ℤ_bound (linear d xs zs +ℤ pos 1) (linear d xs zs +ℤ pos 1) plus_one plus_one
      where
        plus_one : nat_abs (linear d xs zs +ℤ pos 1) ≤ largest_feature_sum d F + 1
        plus_one = +ℤ_bound (linear d xs zs) (pos 1) (feature_sum_bound Square) (omega arith)
    kernel_bound Overlap = omega (arith, feature_sum_bound Overlap)

-- ---- a kernel value as a signed number of 64 bits
-- its bits read back
pub kernel_reads : (k : ℤ) → nat_abs k ≤ kernel_most → to_z w64 (of_z w64 k) ≡ k
kernel_reads k h = reads_back w64 refl (omega arith)

pub kernel_sized : (k : ℤ) → nat_abs k ≤ kernel_most → nat_abs (to_z w64 (of_z w64 k)) ≤ kernel_most
kernel_sized k h = subst (λ z. nat_abs z ≤ kernel_most) (sym (kernel_reads k h)) h
