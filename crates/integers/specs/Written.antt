-- A list with new values at its first places, as a loop that counts up writes them. Assumes nothing.
use Rattle.std.specs.Prelude.{List, ℕ, zero, suc, set}

-- the list l with f i at each place i < n, and later places as they were
unfoldable pub written {ℓ} : {A : Type ℓ} → ℕ → (ℕ → A) → List A → List A
written zero f l = l
written (suc n) f l = set (written n f l) n (f n)
