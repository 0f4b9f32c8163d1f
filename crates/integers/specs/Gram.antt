-- Gram forms: K i j is the inner product of two vectors of whole numbers, one for place i and one for place j. The quadratic form of such a
-- K is never negative, which is all that the distance bound asks of a kernel. Assumes nothing.
use Rattle.std.specs.Prelude.{◌≡◌, ℕ, ◌<◌, ℤ, ◌*ℤ◌}
use Rattle.integers.specs.Sum.{sum}

-- K is a Gram form on the places below n: `feature p i` is entry p of the vector of place i, and p runs below `rank`
pub record Gram (n : ℕ) (K : ℕ → ℕ → ℤ) : Type 0 where
  pub rank : ℕ
  pub feature : ℕ → ℕ → ℤ
  pub entry : (i j : ℕ) → i < n → j < n → K i j ≡ sum rank (λ p. feature p i *ℤ feature p j)

-- the bilinear form of K: the sum over i, j < n of u_i · v_j · K_ij
unfoldable pub bilinear : ℕ → (ℕ → ℕ → ℤ) → (ℕ → ℤ) → (ℕ → ℤ) → ℤ
bilinear n K u v = sum n (λ i. sum n (λ j. u i *ℤ v j *ℤ K i j))

-- the quadratic form of K, Q(u)
abbrev pub quadratic : ℕ → (ℕ → ℕ → ℤ) → (ℕ → ℤ) → ℤ
quadratic n K u = bilinear n K u u
