-- Laws of `first`: the place found is below n and passes, and no lower place passes; it is the only such place; where a place passes,
-- one is found; the test below n alone counts. Assumes nothing.
use mathlib.Core.Path.{◌≡◌, refl, sym, ◌∙◌, ap, subst}
use mathlib.Core.Logic.{⊎_elim}
use mathlib.Core.Bool.{Bool, true, false}
use mathlib.Core.Option.{Option, none, some}
use Prim.Native.Nat.{ℕ, zero, suc, ◌<◌}
use native.Mathlib.Nat.{le_refl, le_antisymm, le_of_suc-le-suc, eq-or-lt_of_le}
use native.Mathlib.Omega.{arith, by_contra}
use Rattle.integers.proofs.Laws.Truth.{clash}
use Rattle.integers.specs.Extremum.{or_place, first}

-- place k is the first that passes
pub record First (n : ℕ) (p : ℕ → Bool) (k : ℕ) : Type 0 where
  pub within : k < n
  pub passes : p k ≡ true
  pub before : (i : ℕ) → i < k → p i ≡ false

-- what was found: such a place, or none passes
Found : ℕ → (ℕ → Bool) → Option ℕ → Type 0
Found n p none = (i : ℕ) → i < n → p i ≡ false
Found n p (some k) = First n p k

module _ (p : ℕ → Bool) where
  found_step : (n : ℕ) (o : Option ℕ) (t : Bool) → p n ≡ t → Found n p o → Found (suc n) p (or_place o n t)
  unfolding Found
  found_step n (some k) t e h = record { within = omega (arith, h.within); passes = h.passes; before = h.before }
  found_step n none true e h = record { within = le_refl (suc n); passes = e; before = h }
  found_step n none false e h = λ i l. ⊎_elim (λ q. subst (λ k. p k ≡ false) (sym q) e) (λ m. h i m) (eq-or-lt_of_le (le_of_suc-le-suc l))

  found : (n : ℕ) → Found n p (first n p)
  unfolding first Found
  found zero = λ i h. absurd (omega arith)
  found (suc n) = found_step n (first n p) (p n) refl (found n)

  -- the place found is such a place
  pub first_sound : {n k : ℕ} → first n p ≡ some k → First n p k
  unfolding Found
  first_sound {n} {k} e = subst (Found n p) e (found n)

  pub first_none : {n : ℕ} → first n p ≡ none → (i : ℕ) → i < n → p i ≡ false
  unfolding Found
  first_none {n} e = subst (Found n p) e (found n)

  -- no other place is one
  pub first_unique : {n k l : ℕ} → First n p k → First n p l → k ≡ l
  first_unique {n} {k} {l} h g =
      le_antisymm (by_contra k l (λ m. clash g.passes (h.before l m))) (by_contra l k (λ m. clash h.passes (g.before k m)))

  -- where a place passes, one is found
  pub first_found : {n i : ℕ} → i < n → p i ≡ true → (k : ℕ) × (first n p ≡ some k)
  first_found {n} {i} l q = some_found (first n p) refl
    where
      some_found : (o : Option ℕ) → first n p ≡ o → (k : ℕ) × (first n p ≡ some k)
      some_found none e = clash q (first_none e i l)
      some_found (some k) e = (k, e)

  pub first_complete : {n k : ℕ} → First n p k → first n p ≡ some k
  first_complete {n} {k} h =
      let r = first_found h.within h.passes in
      r.1 ∙ ap some (first_unique (first_sound r.1) h)

  -- where none passes, none is found
  pub first_absent : {n : ℕ} → ((i : ℕ) → i < n → p i ≡ false) → first n p ≡ none
  first_absent {n} h = none_found (first n p) refl
    where
      none_found : (o : Option ℕ) → first n p ≡ o → first n p ≡ none
      none_found none e = e
      none_found (some k) e = let f = first_sound e in clash f.passes (h k f.within)

-- the test below n alone counts
pub first_cong : (n : ℕ) (p q : ℕ → Bool) → ((i : ℕ) → i < n → p i ≡ q i) → first n p ≡ first n q
unfolding first
first_cong zero p q h = refl
first_cong (suc n) p q h = λ d. or_place (first_cong n p q (λ i l. h i (omega arith)) d) n (h n (le_refl (suc n)) d)
