-- Membership. Assumes nothing.
use Rattle.std.specs.Prelude.{Bool, false, ◌||◌, List, [], ◌∷◌, ℕ, eqb}

-- whether a number is among those of a list
abbrev pub member : ℕ → List ℕ → Bool
member r [] = false
member r (x ∷ rs) = eqb r x || member r rs
