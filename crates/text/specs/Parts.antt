-- A text taken apart at a byte, as somebody who reads it does: at byte 10 into its lines, at the space into the fields of a line. Assumes
-- nothing.
use Rattle.std.specs.Prelude.{◌≡◌, Bool, true, false, cond, List, [], ◌∷◌, ◌++◌, ℕ, eqb}

-- a byte before the first part
unfoldable pub before : ℕ → List (List ℕ) → List (List ℕ)
before byte [] = (byte ∷ []) ∷ []
before byte (part ∷ more) = (byte ∷ part) ∷ more

-- the parts of a text between the bytes that are the mark; what follows the last mark is a part too, be it empty
unfoldable pub parts : ℕ → List ℕ → List (List ℕ)
parts mark [] = [] ∷ []
parts mark (byte ∷ text) = cond (eqb byte mark) ([] ∷ parts mark text) (before byte (parts mark text))

-- ---- what tells the parts of a text (`parts_marked`, `parts_free`)

-- each text after a mark
unfoldable pub marked : ℕ → List (List ℕ) → List ℕ
marked mark [] = []
marked mark (part ∷ more) = mark ∷ (part ++ marked mark more)

-- whether no byte of the text is the mark
unfoldable pub free : ℕ → List ℕ → Bool
free mark [] = true
free mark (byte ∷ text) = cond (eqb byte mark) false (free mark text)

-- no text has the mark in it
unfoldable pub AllFree : ℕ → List (List ℕ) → Type 0
AllFree mark [] = Unit {0}
AllFree mark (part ∷ more) = (free mark part ≡ true) × AllFree mark more
