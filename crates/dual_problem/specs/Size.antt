-- How large the numbers of a problem can be, from the ranges of a file's fields: what the contracts say of each, so that whoever adds them
-- up knows that the sum fits 64 bits. Assumes nothing.
use Rattle.std.specs.Prelude.{ℕ, ◌+◌, ◌*◌}
use Rattle.training_file.specs.Layout.{feature_count, signed_most}
use Rattle.training_file.specs.Parameters.{ceiling_most, grid_most, records_most}
use Rattle.dual_problem.specs.Kernel.{largest_feature_sum, largest_kernel}

-- a kernel's sum over the features, and a kernel value: of all the features that an item has, each a signed byte
abbrev pub feature_sum_most : ℕ
feature_sum_most = largest_feature_sum feature_count signed_most

abbrev pub kernel_most : ℕ
kernel_most = largest_kernel feature_count signed_most

-- η, from three kernel values, one of them twice
abbrev pub curvature_most : ℕ
curvature_most = 4 * kernel_most

-- what one item adds to G or to a score, and what all items add
abbrev pub term_most : ℕ
term_most = ceiling_most * kernel_most

abbrev pub weighed_most : ℕ
weighed_most = records_most * term_most

-- G, and with it a threshold
abbrev pub gradient_most : ℕ
gradient_most = weighed_most + grid_most

-- a doubled score, from what all items add, twice, and both thresholds
abbrev pub score_most : ℕ
score_most = 2 * weighed_most + (gradient_most + gradient_most)

-- the gap, from both thresholds, and the sum of all items' ceilings, whose product is the bound on the distance
abbrev pub gap_most : ℕ
gap_most = gradient_most + gradient_most

abbrev pub ceilings_most : ℕ
ceilings_most = records_most * ceiling_most
