-- The parameters of training and their ranges (document 01, "The training file": the header's table, column "Allowed"). Assumes nothing.
use Rattle.std.specs.Prelude.{Bool, ◌&&◌, cond, ℕ, ◌≤◌, leb, eqb}
use Rattle.training_file.specs.declared.parameters.Kernel.{Kernel}
use Rattle.training_file.specs.declared.parameters.Kernel.TheVariants.{Linear, Square, Overlap}
use Rattle.training_file.specs.declared.parameters.Parameters.{Parameters}
use Rattle.training_file.specs.Layout.{feature_count}

-- m is "0 to 256"
abbrev pub records_most : ℕ
records_most = 256

-- S is "1 to 1,048,576"
abbrev pub grid_most : ℕ
grid_most = 1048576

-- c is "1 to 65,536"; of the ceiling for label −1, "0 means the same as c, otherwise 1 to 65,536" (document 02, request (f))
abbrev pub ceiling_most : ℕ
ceiling_most = 65536

-- t is "0 to 1,000,000,000,000"
abbrev pub tolerance_most : ℕ
tolerance_most = 1000000000000

-- the step budget is "0 to 1,000,000"
abbrev pub budget_most : ℕ
budget_most = 1000000

-- whether a value is within a range, ends included
abbrev pub within : ℕ → ℕ → ℕ → Bool
within least greatest value = leb least value && leb value greatest

-- "kernel: 0 linear, 1 square"; it "now allows 2 as well" (document 02, request (i)). Only an allowed byte is asked for its kernel.
abbrev pub kernel_allowed : ℕ → Bool
kernel_allowed byte = leb byte 2

abbrev pub kernel_of_byte : ℕ → Kernel
kernel_of_byte byte = cond (eqb byte 0) Linear (cond (eqb byte 1) Square Overlap)

-- the byte of a kernel, which stands for it alone (`kernel_back`, `kernel_byte_back`)
abbrev pub byte_of_kernel : Kernel → ℕ
byte_of_kernel Linear = 0
byte_of_kernel Square = 1
byte_of_kernel Overlap = 2

-- both ceilings, each within its range
abbrev pub ceilings_allowed : ℕ → ℕ → Bool
ceilings_allowed ceiling second_ceiling = within 1 ceiling_most ceiling && within 0 ceiling_most second_ceiling

-- d ("1 to 16", the features that an item has), S, both ceilings, t and the step budget, each within its range
unfoldable pub parameters_allowed : Parameters → Bool
parameters_allowed p =
    within 1 feature_count p.used
    && within 1 grid_most p.grid
    && ceilings_allowed p.ceiling p.second_ceiling
    && within 0 tolerance_most p.tolerance
    && within 0 budget_most p.budget

-- the same ranges as orders
pub record Ranges (p : Parameters) : Type 0 where
  pub used_least : 1 ≤ p.used
  pub used_greatest : p.used ≤ feature_count
  pub grid_least : 1 ≤ p.grid
  pub grid_greatest : p.grid ≤ grid_most
  pub ceiling_least : 1 ≤ p.ceiling
  pub ceiling_greatest : p.ceiling ≤ ceiling_most
  pub second_ceiling_greatest : p.second_ceiling ≤ ceiling_most
  pub tolerance_greatest : p.tolerance ≤ tolerance_most
  pub budget_greatest : p.budget ≤ budget_most
