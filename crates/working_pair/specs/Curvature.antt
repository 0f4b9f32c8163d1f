-- η of two items by their features, for the contracts. Assumes nothing.
use Rattle.std.specs.Prelude.{◌≡◌, List, ◌≤◌, ℤ, pos, nat_abs, ◌+ℤ◌, ◌-ℤ◌, ◌*ℤ◌, length}
use Rattle.training_file.specs.declared.parameters.Parameters.{Parameters}
use Rattle.training_file.specs.Layout.{feature_count}
use Rattle.dual_problem.specs.Size.{kernel_most}
use Rattle.dual_problem.specs.Kernel.{kernel_between}

-- "η = K_ii + K_jj − 2 × K_ij", of two items by their features
abbrev pub curvature_between : Parameters → List ℤ → List ℤ → ℤ
curvature_between p xs zs = kernel_between p xs xs +ℤ kernel_between p zs zs -ℤ pos 2 *ℤ kernel_between p xs zs

-- the features of two items, no fewer than are in use, and K of the first item and itself
pub record FeaturesGiven (p : Parameters) (k : ℤ) (xs zs : List ℤ) : Type 0 where
  pub used : p.used ≤ feature_count
  pub xs_long : p.used ≤ length xs
  pub zs_long : p.used ≤ length zs
  pub kernel : k ≡ kernel_between p xs xs
  pub kernel_size : nat_abs k ≤ kernel_most
