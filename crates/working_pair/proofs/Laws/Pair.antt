-- What a search holds of an item that was fetched. Assumes nothing.
use mathlib.Core.Path.{◌≡◌, ◌∙◌}
use Prim.Native.Nat.{ℕ, ◌≤◌, ◌<◌}
use lib.IntN.{ℤ, nat_abs}
use mir.Syntax.{w64}
use mir.Val.{to_z, of_z}
use Rattle.training_file.specs.declared.item.Item.{Item}
use Rattle.dual_problem.specs.declared.problem.FileProblem.{FileProblem}
use Rattle.dual_problem.specs.Size.{kernel_most}
use Rattle.dual_problem.specs.Kernel.{kernel_between}
use Rattle.dual_problem.specs.Given.{count_in, item_at}
use Rattle.dual_problem.proofs.Laws.Kernel.{kernel_reads}
use Rattle.working_pair.specs.Pair.{Held}

-- k is K of the item x and itself, as it was worked out; its bits are what is held
pub held_fetched : {f : FileProblem} {i : ℕ} {x : Item} {k : ℤ} → i < count_in f → x ≡ item_at f i
    → (k ≡ kernel_between f.parameters x.features x.features) × (nat_abs k ≤ kernel_most) → Held f i x.features (to_z w64 (of_z w64 k))
held_fetched {f} {k} within is (value, size) =
    record { within = within; features = λ d. (is d).features; kernel = kernel_reads k size ∙ value ∙ (λ d. kernel_between f.parameters (is d).features (is d).features) }
