-- Laws of `tabulate`. Assumes nothing.
use mathlib.Core.Path.{◌≡◌, refl, sym, ◌∙◌, ap}
use mathlib.Core.Logic.{◌⊎◌, inl, inr}
use mathlib.Core.List.{[], ◌∷◌, ◌++◌}
use Prim.Native.Nat.{ℕ, zero, suc, ◌+◌, ◌<◌}
use native.Mathlib.Nat.{le_of_suc-le-suc, eq-or-lt_of_le}
use native.Mathlib.Omega.{arith}
use lib.ListN.{length, get_or, length-append, get_or-append}
use lib.Seq.{get_or-append-add}
use Rattle.integers.specs.Tabulate.{tabulate}

module _ {A : Type 0} (f : ℕ → A) where
  pub length-tabulate : (n : ℕ) → length (tabulate n f) ≡ n
  unfolding tabulate
  length-tabulate zero = refl
  length-tabulate (suc n) = length-append (tabulate n f) (f n ∷ []) ∙ omega (arith, length-tabulate n)

  pub tabulate_at : (none : A) (n k : ℕ) → k < n → get_or (tabulate n f) k none ≡ f k
  unfolding tabulate
  tabulate_at none zero k h = absurd (omega arith)
  tabulate_at none (suc n) k h = by (tabulate_at none n k) (eq-or-lt_of_le (le_of_suc-le-suc h))
    where
      by : (k < n → get_or (tabulate n f) k none ≡ f k) → (k ≡ n) ⊎ (k < n) → get_or (tabulate n f ++ (f n ∷ [])) k none ≡ f k
      by before (inl e) =
          let at : k ≡ length (tabulate n f) + 0 = omega (arith, length-tabulate n) in
          ap (λ (i : ℕ). get_or (tabulate n f ++ (f n ∷ [])) i none) at ∙ get_or-append-add (tabulate n f) (f n ∷ []) 0 none ∙ ap f (sym e)
      by before (inr l) = get_or-append (tabulate n f) (f n ∷ []) none k (omega (arith, length-tabulate n)) ∙ before l
