-- Laws of the parameters: when they are allowed, and the bytes of the kernels. Assumes nothing.
use mathlib.Core.Path.{◌≡◌, refl, sym}
use mathlib.Core.Bool.{Bool, true, false}
use Prim.Native.Nat.{ℕ, ◌≤◌}
use native.Mathlib.Omega.{arith}
use lib.Dec.{leb, eqb}
use borrow.Author.Tests.{leb-true, eqb-true, eqb-false}
use Rattle.integers.proofs.Laws.Truth.{&&_both}
use Rattle.training_file.specs.declared.parameters.Kernel.{Kernel}
use Rattle.training_file.specs.declared.parameters.Kernel.TheVariants.{Linear, Square, Overlap}
use Rattle.training_file.specs.declared.parameters.Parameters.{Parameters}
use Rattle.training_file.specs.Layout.{feature_count}
use Rattle.training_file.specs.Parameters.{Ranges, budget_most, byte_of_kernel, ceiling_most, ceilings_allowed, grid_most, kernel_allowed, kernel_of_byte, parameters_allowed, tolerance_most, within}

-- ---- a range

module _ (least greatest value : ℕ) where
  pub within_both : within least greatest value ≡ true → (least ≤ value) × (value ≤ greatest)
  within_both h =
      let both = &&_both (leb least value) (leb value greatest) h in
      (leb-true least value both.0, leb-true value greatest both.1)

-- ---- the parameters: where they are allowed, each field is within its range

module _ (p : Parameters) where
  pub allowed_ranges : parameters_allowed p ≡ true → Ranges p
  unfolding parameters_allowed
  allowed_ranges h =
      let b = &&_both _ (within 0 budget_most p.budget) h in
      let t = &&_both _ (within 0 tolerance_most p.tolerance) b.0 in
      let both = &&_both _ (ceilings_allowed p.ceiling p.second_ceiling) t.0 in
      let c = &&_both (within 1 ceiling_most p.ceiling) (within 0 ceiling_most p.second_ceiling) both.1 in
      let g = &&_both (within 1 feature_count p.used) (within 1 grid_most p.grid) both.0 in
      record {
        used_least = (within_both 1 feature_count p.used g.0).0;
        used_greatest = (within_both 1 feature_count p.used g.0).1;
        grid_least = (within_both 1 grid_most p.grid g.1).0;
        grid_greatest = (within_both 1 grid_most p.grid g.1).1;
        ceiling_least = (within_both 1 ceiling_most p.ceiling c.0).0;
        ceiling_greatest = (within_both 1 ceiling_most p.ceiling c.0).1;
        second_ceiling_greatest = (within_both 0 ceiling_most p.second_ceiling c.1).1;
        tolerance_greatest = (within_both 0 tolerance_most p.tolerance t.1).1;
        budget_greatest = (within_both 0 budget_most p.budget b.1).1;
      }

-- ---- a kernel has an allowed byte, and each of the two is the other's

pub kernel_byte_allowed : (kernel : Kernel) → kernel_allowed (byte_of_kernel kernel) ≡ true
kernel_byte_allowed Linear = refl
kernel_byte_allowed Square = refl
kernel_byte_allowed Overlap = refl

pub kernel_back : (kernel : Kernel) → kernel_of_byte (byte_of_kernel kernel) ≡ kernel
kernel_back Linear = refl
kernel_back Square = refl
kernel_back Overlap = refl

pub kernel_byte_back : (byte : ℕ) → kernel_allowed byte ≡ true → byte_of_kernel (kernel_of_byte byte) ≡ byte
kernel_byte_back byte h = by (eqb byte 0) (eqb byte 1) refl refl
  where
    by : (s t : Bool) → eqb byte 0 ≡ s → eqb byte 1 ≡ t → byte_of_kernel (kernel_of_byte byte) ≡ byte
    by true t e f = rw e (sym (eqb-true byte 0 e))
    by false true e f = rw (e, f) (sym (eqb-true byte 1 f))
    by false false e f =
        let not-linear = eqb-false byte 0 e in
        let not-square = eqb-false byte 1 f in
        let range = leb-true byte 2 h in
        rw (e, f) (omega arith)
