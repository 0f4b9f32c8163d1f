-- Document 01, "Grid definitions", and document 02, request (i): the kernel value K of two items, by their features. Assumes nothing.
use Rattle.std.specs.Prelude.{cond, List, ℕ, ◌+◌, ◌*◌, ◌≤◌, ◌<◌, ℤ, pos, nat_abs, ◌+ℤ◌, ◌*ℤ◌, length, get_or}
use Rattle.std.specs.Int.Signed.{le_z}
use Rattle.integers.specs.Sum.{sum}
use Rattle.training_file.specs.declared.parameters.Kernel.{Kernel}
use Rattle.training_file.specs.declared.parameters.Kernel.TheVariants.{Linear, Square, Overlap}
use Rattle.training_file.specs.declared.parameters.Parameters.{Parameters}
use Rattle.training_file.specs.declared.item.Item.{Item}
use Rattle.training_file.specs.Item.{feature_most, item_in}

-- the sum over the first d features of what f makes of the two values
abbrev pub over_features : (ℤ → ℤ → ℤ) → ℕ → List ℤ → List ℤ → ℤ
over_features f d xs zs = sum d (λ p. f (get_or xs p (pos 0)) (get_or zs p (pos 0)))

-- "Linear: K is the sum of products of the first d features."
abbrev pub linear : ℕ → List ℤ → List ℤ → ℤ
linear d xs zs = over_features ◌*ℤ◌ d xs zs

-- "Square: K is that sum plus 1, squared."
abbrev pub square : ℕ → List ℤ → List ℤ → ℤ
square d xs zs = (linear d xs zs +ℤ pos 1) *ℤ (linear d xs zs +ℤ pos 1)

-- "raised by 127": a feature of −127 to 127 becomes a number of 0 to 254
abbrev pub raised_by : ℕ
raised_by = 127

abbrev pub raised_feature : ℤ → ℤ
raised_feature feature = feature +ℤ pos raised_by

abbrev pub raised_most : ℕ
raised_most = feature_most + raised_by

-- "the smaller of the two values, each first raised by 127"
abbrev pub smaller : ℤ → ℤ → ℤ
smaller a b = cond (le_z a b) a b

abbrev pub smaller_raised : ℤ → ℤ → ℤ
smaller_raised x z = smaller (raised_feature x) (raised_feature z)

-- "Kernel 2 is the sum over the first d features of the smaller of the two values, each first raised by 127."
abbrev pub overlap : ℕ → List ℤ → List ℤ → ℤ
overlap d xs zs = over_features smaller_raised d xs zs

-- K of two lists of features, by the kernel that the header names
abbrev pub kernel_value : Kernel → ℕ → List ℤ → List ℤ → ℤ
kernel_value Linear d xs zs = linear d xs zs
kernel_value Square d xs zs = square d xs zs
kernel_value Overlap d xs zs = overlap d xs zs

-- K of two items by their features, with the kernel and the features in use that the parameters name
abbrev pub kernel_between : Parameters → List ℤ → List ℤ → ℤ
kernel_between p xs zs = kernel_value p.kernel p.used xs zs

-- what a kernel's sum over the features adds up
abbrev pub summand : Kernel → ℤ → ℤ → ℤ
summand Linear x z = x *ℤ z
summand Square x z = x *ℤ z
summand Overlap x z = smaller_raised x z

-- each item's features are in their range, "−127 to 127": what the kernels' Gram form asks (`kernel_gram`)
abbrev pub FeaturesInRange : List Item → Type 0
FeaturesInRange items = (i : ℕ) → i < length items → (p : ℕ) → nat_abs (get_or (item_in items i).features p (pos 0)) ≤ feature_most

-- how large a kernel's sum over d features can be, where none is larger than F, and how large a kernel value, which is the square's
abbrev pub largest_feature_sum : ℕ → ℕ → ℕ
largest_feature_sum d F = d * (F * F)

abbrev pub largest_kernel : ℕ → ℕ → ℕ
largest_kernel d F = (largest_feature_sum d F + 1) * (largest_feature_sum d F + 1)
