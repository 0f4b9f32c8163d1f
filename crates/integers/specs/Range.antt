-- Whole numbers of 0 to n. Assumes nothing.
use Rattle.std.specs.Prelude.{ℕ, ℤ, pos, ◌≤ℤ◌}

abbrev pub InRange : ℤ → ℕ → Type 0
InRange z n = (pos 0 ≤ℤ z) × (z ≤ℤ pos n)
