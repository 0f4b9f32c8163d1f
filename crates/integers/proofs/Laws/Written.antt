-- Laws of `written`. Assumes nothing.
use mathlib.Core.Path.{◌≡◌, refl, sym, ◌∙◌, ap}
use mathlib.Core.Logic.{◌⊎◌, inl, inr, ⊎_elim}
use mathlib.Core.List.{List, ◌++◌}
use Prim.Native.Nat.{ℕ, zero, suc, ◌+◌, ◌-◌, ◌≤◌, ◌<◌}
use native.Mathlib.Nat.{le_refl, le_of_suc-le-suc, eq-or-lt_of_le}
use native.Mathlib.Decide.{dec_le}
use native.Mathlib.Omega.{arith}
use lib.ListN.{length, get_or, set, drop, length-set, length-append, length-drop, get_or-append}
use lib.Seq.{ext_get_or, get_or-append-add, get_or-drop, get_or-set_same, get_or-set_other}
use Rattle.integers.specs.Written.{written}

le_or_lt : (n i : ℕ) → (n ≤ i) ⊎ (i < n)
le_or_lt n i = by (dec_le n i)
  where
    by : Dec (n ≤ i) → (n ≤ i) ⊎ (i < n)
    by (yes h) = inl h
    by (no h) = inr (omega arith)

module _ {ℓ} {A : Type ℓ} where
  pub length_written : (n : ℕ) (f : ℕ → A) (l : List A) → length (written n f l) ≡ length l
  unfolding written
  length_written zero f l = refl
  length_written (suc n) f l = length-set (written n f l) n (f n) ∙ length_written n f l

  -- the values of f at the first n places
  pub written_at : (n : ℕ) (f : ℕ → A) (l : List A) (d : A) → n ≤ length l → (i : ℕ) → i < n → get_or (written n f l) i d ≡ f i
  unfolding written
  written_at zero f l d h i k = absurd (omega arith)
  written_at (suc n) f l d h i k = at_last (written_at n f l d (omega arith)) (eq-or-lt_of_le (le_of_suc-le-suc k))
    where
      at_last : ((j : ℕ) → j < n → get_or (written n f l) j d ≡ f j) → (i ≡ n) ⊎ (i < n) → get_or (set (written n f l) n (f n)) i d ≡ f i
      at_last ih (inl e) = rw e (get_or-set_same (written n f l) n (f n) d (omega (arith, length_written n f l)))
      at_last ih (inr m) = get_or-set_other (written n f l) n i (f n) d (omega arith) ∙ ih i m

  -- and those of l at the later ones
  pub written_past : (n : ℕ) (f : ℕ → A) (l : List A) (d : A) (i : ℕ) → n ≤ i → get_or (written n f l) i d ≡ get_or l i d
  unfolding written
  written_past zero f l d i k = refl
  written_past (suc n) f l d i k = get_or-set_other (written n f l) n i (f n) d (omega arith) ∙ written_past n f l d i (omega arith)

  pub written_cong : (n : ℕ) (f g : ℕ → A) (l : List A) → ((i : ℕ) → i < n → f i ≡ g i) → written n f l ≡ written n g l
  unfolding written
  written_cong zero f g l h = refl
  written_cong (suc n) f g l h = λ k. set (written_cong n f g l (λ i m. h i (omega arith)) k) n (h n (le_refl (suc n)) k)

  -- values that stand there already change nothing, and what is written over is forgotten
  pub written_same : (n : ℕ) (f : ℕ → A) (l : List A) (d : A) → n ≤ length l → ((i : ℕ) → i < n → get_or l i d ≡ f i) → l ≡ written n f l
  written_same n f l d h same =
      ext_get_or d l (written n f l) (sym (length_written n f l))
      (λ i k. ⊎_elim (λ m. sym (written_past n f l d i m)) (λ m. same i m ∙ sym (written_at n f l d h i m)) (le_or_lt n i))

  pub written_over : (n : ℕ) (f g : ℕ → A) (l : List A) (d : A) → n ≤ length l → written n f (written n g l) ≡ written n f l
  written_over n f g l d h =
      ext_get_or d (written n f (written n g l)) (written n f l) (length_written n f (written n g l) ∙ length_written n g l ∙ sym (length_written n f l))
      (λ i k. ⊎_elim
      (λ m. written_past n f (written n g l) d i m ∙ written_past n g l d i m ∙ sym (written_past n f l d i m))
      (λ m. written_at n f (written n g l) d (omega (arith, length_written n g l)) i m ∙ sym (written_at n f l d h i m)) (le_or_lt n i))

  -- the values of a list of n, in front of what is left of l
  pub written_front : (a l : List A) (d : A) → length a ≤ length l → written (length a) (λ i. get_or a i d) l ≡ a ++ drop (length a) l
  written_front a l d h =
      ext_get_or d (written (length a) (λ i. get_or a i d) l) (a ++ drop (length a) l) (length_written (length a) (λ i. get_or a i d) l ∙ sym (simp (length-append, length-drop) (omega arith)))
      (λ i k. ⊎_elim
      (λ m. written_past (length a) (λ i. get_or a i d) l d i m ∙ sym (past i m))
      (λ m. written_at (length a) (λ i. get_or a i d) l d h i m ∙ sym (get_or-append a (drop (length a) l) d i m)) (le_or_lt (length a) i))
    where
      past : (i : ℕ) → length a ≤ i → get_or (a ++ drop (length a) l) i d ≡ get_or l i d
      past i m =
          let e : i ≡ length a + (i - length a) = omega arith in
          ap (λ j. get_or (a ++ drop (length a) l) j d) e ∙ get_or-append-add a (drop (length a) l) (i - length a) d ∙ get_or-drop (length a) l (i - length a) d ∙ ap (λ j. get_or l j d) (sym e)
