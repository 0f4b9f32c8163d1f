-- The sizes as figures, which docs/RULES.md gives. Assumes nothing.
use mathlib.Core.Path.{◌≡◌, refl}
use Prim.Native.Nat.{◌*◌, ◌/◌, ◌<◌, ◌^◌}
use lib.Dec.{lit<}
use Rattle.dual_problem.specs.Kernel.{raised_most}
use Rattle.dual_problem.specs.Size.{ceilings_most, gap_most, gradient_most, kernel_most, score_most}

pub raised_figure : raised_most ≡ 254
raised_figure = refl

pub kernel_figure : kernel_most ≡ 68720001025
kernel_figure = refl

pub gradient_figure : gradient_most ≡ 1152930300717694976
gradient_figure = refl

pub score_figure : score_most ≡ 4611721202868682752
score_figure = refl

-- the largest of them fits a signed number of 64 bits
pub score_fits : score_most < 2 ^ 63
score_fits = lit< tt

pub gap_figure : gap_most ≡ 2305860601435389952
gap_figure = refl

pub ceilings_figure : ceilings_most ≡ 2 ^ 24
ceilings_figure = refl

-- the sum of the ceilings, times the gap's upper and times its lower 32 bits: by these a caller works the bound out in 64 bits
pub bound_parts_fit : (ceilings_most * (gap_most / 2 ^ 32) < 2 ^ 63) × (ceilings_most * 2 ^ 32 < 2 ^ 63)
bound_parts_fit = (lit< tt, lit< tt)
