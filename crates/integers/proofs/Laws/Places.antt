-- Laws of a test of the places i < n. Assumes nothing.
use mathlib.Core.Path.{◌≡◌, refl, sym, ◌∙◌, ap}
use mathlib.Core.Logic.{◌⊎◌, inl, inr}
use mathlib.Core.Bool.{Bool, true, false, ◌&&◌, and-true, and-false}
use Prim.Native.Nat.{ℕ, zero, suc, ◌+◌, ◌≤◌, ◌<◌}
use native.Mathlib.Nat.{add-zero, add-suc, le_refl, le_of_suc-le-suc, eq-or-lt_of_le}
use native.Mathlib.Omega.{arith}
use Rattle.integers.proofs.Laws.Truth.{&&_true, &&_left, &&_right}
use Rattle.integers.specs.Places.{all}

module _ (p : ℕ → Bool) where
  -- it holds below n and at n
  pub all_suc : (n : ℕ) → all n p ≡ true → p n ≡ true → all (suc n) p ≡ true
  unfolding all
  all_suc n h k = &&_true h k

  -- it fails at a place
  pub all_fails : (n i : ℕ) → i < n → p i ≡ false → all n p ≡ false
  unfolding all
  all_fails zero i l h = absurd (omega arith)
  all_fails (suc n) i l h = at_last (λ m. all_fails n i m h) (eq-or-lt_of_le (le_of_suc-le-suc l))
    where
      at_last : (i < n → all n p ≡ false) → (i ≡ n) ⊎ (i < n) → all n p && p n ≡ false
      at_last ih (inl e) = ap (λ t. all n p && t) (ap p (sym e) ∙ h) ∙ and-false (all n p)
      at_last ih (inr m) = ap (λ t. t && p n) (ih m)

  pub all_holds : (n : ℕ) → all n p ≡ true → (i : ℕ) → i < n → p i ≡ true
  unfolding all
  all_holds zero h i l = absurd (omega arith)
  all_holds (suc n) h i l = at_last (λ e. all_holds n e i) (eq-or-lt_of_le (le_of_suc-le-suc l))
    where
      at_last : (all n p ≡ true → i < n → p i ≡ true) → (i ≡ n) ⊎ (i < n) → p i ≡ true
      at_last ih (inl e) = ap p e ∙ &&_right (all n p) (p n) h
      at_last ih (inr m) = ih (&&_left (all n p) (p n) h) m

  pub all_true : (n : ℕ) → ((i : ℕ) → i < n → p i ≡ true) → all n p ≡ true
  unfolding all
  all_true zero h = refl
  all_true (suc n) h = all_suc n (all_true n (λ i l. h i (omega arith))) (h n (le_refl (suc n)))

  -- where it holds from n on, the first n places decide
  pub all_first : (n k : ℕ) → ((i : ℕ) → n ≤ i → p i ≡ true) → all (n + k) p ≡ all n p
  unfolding all
  all_first n zero h = ap (λ m. all m p) (add-zero n)
  all_first n (suc k) h =
      ap (λ m. all m p) (add-suc n k) ∙ (λ j. all_first n k h j && h (n + k) (omega arith) j) ∙ and-true (all n p)
