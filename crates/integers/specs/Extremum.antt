-- The least and the greatest of f i over the places i < n that pass a test, and the lowest place that attains it. Assumes nothing.
use Rattle.std.specs.Prelude.{Bool, true, false, cond, ℕ, zero, suc, ℤ, pos}
use Rattle.std.proofs.Math.Option.{Option, none, some}
use Rattle.std.specs.Int.Signed.{lt_z}

-- place n put beside the place found among those below it: taken where it passes the test and its value comes before the other's
abbrev pub beside : (ℤ → ℤ → Bool) → (ℕ → ℤ) → Option ℕ → ℕ → Bool → Option ℕ
beside before f found n false = found
beside before f none n true = some n
beside before f (some k) n true = cond (before (f n) (f k)) (some n) (some k)

-- the lowest place of those whose value no other comes before; none where no place passes
unfoldable pub extreme : (ℤ → ℤ → Bool) → ℕ → (ℕ → Bool) → (ℕ → ℤ) → Option ℕ
extreme before zero p f = none
extreme before (suc n) p f = beside before f (extreme before n p f) n (p n)

abbrev pub argmin : ℕ → (ℕ → Bool) → (ℕ → ℤ) → Option ℕ
argmin = extreme lt_z

abbrev pub argmax : ℕ → (ℕ → Bool) → (ℕ → ℤ) → Option ℕ
argmax = extreme (λ a b. lt_z b a)

-- the value at a place that was found, 0 where there is none
abbrev pub value_at : (ℕ → ℤ) → Option ℕ → ℤ
value_at f none = pos 0
value_at f (some k) = f k

abbrev pub least : ℕ → (ℕ → Bool) → (ℕ → ℤ) → ℤ
least n p f = value_at f (argmin n p f)

abbrev pub greatest : ℕ → (ℕ → Bool) → (ℕ → ℤ) → ℤ
greatest n p f = value_at f (argmax n p f)

-- the first of the places i < n that pass a test
abbrev pub or_place : Option ℕ → ℕ → Bool → Option ℕ
or_place (some k) n t = some k
or_place none n true = some n
or_place none n false = none

unfoldable pub first : ℕ → (ℕ → Bool) → Option ℕ
first zero p = none
first (suc n) p = or_place (first n p) n (p n)
