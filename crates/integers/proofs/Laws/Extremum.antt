-- Laws of the least and the greatest: the place found is below n and passes, its value bounds the others, it is the lowest of its
-- equals; it is the only place of which that holds; where a place passes, one is found. Proved once, over the strict order by which
-- values are compared. Assumes nothing.
pub mod First
use mathlib.Core.Path.{◌≡◌, refl, sym, ◌∙◌, ap, subst}
use mathlib.Core.Logic.{⊎_elim}
use mathlib.Core.Bool.{Bool, true, false, cond}
use mathlib.Core.Option.{Option, none, some}
use Prim.Native.Nat.{ℕ, zero, suc, ◌<◌}
use native.Mathlib.Nat.{le_refl, le_antisymm, le_of_suc-le-suc, eq-or-lt_of_le}
use native.Mathlib.Omega.{arith, by_contra}
use lib.IntN.{ℤ}
use lib.Signed.{lt_z, ◌≤ℤ◌, ◌<ℤ◌, ≤ℤ_refl}
use Rattle.integers.proofs.Laws.Truth.{clash, not_true_false, not_false_true}
use Rattle.integers.proofs.Laws.Linear.{integer}
use Rattle.integers.proofs.Laws.Order.{lt_z_true, lt_z_false, <ℤ-lt_z, ≤ℤ-lt_z}
use Rattle.integers.specs.Extremum.{beside, extreme, value_at, least, greatest}

-- ---- the comparison
-- what a comparison must do: none comes before itself, and what comes before c comes before b, or b before c
pub record Strict (before : ℤ → ℤ → Bool) : Type 0 where
  pub irrefl : (a : ℤ) → before a a ≡ false
  pub trans : (a b c : ℤ) → before a b ≡ true → before b c ≡ true → before a c ≡ true
  pub between : (a b c : ℤ) → before a c ≡ true → before b c ≡ false → before a b ≡ true

pub lt_z_strict : Strict lt_z
lt_z_strict =
    record {
      irrefl = λ a. ≤ℤ-lt_z (≤ℤ_refl a);
      trans = λ a b c h k. <ℤ-lt_z (below (lt_z_true a b h) (lt_z_true b c k));
      between = λ a b c h k. <ℤ-lt_z (beyond (lt_z_true a c h) (lt_z_false b c k));
    }
  where
    below : {a b c : ℤ} → a <ℤ b → b <ℤ c → a <ℤ c
    below h k = omega (arith, integer)

    beyond : {a b c : ℤ} → a <ℤ c → c ≤ℤ b → a <ℤ b
    beyond h k = omega (arith, integer)

-- the other way round it is one too
pub flip_strict : {before : ℤ → ℤ → Bool} → Strict before → Strict (λ a b. before b a)
flip_strict {before} s =
    record {
      irrefl = s.irrefl;
      trans = λ a b c h k. s.trans c b a k h;
      between = λ a b c h k. not_false_true (before b a) (λ e. clash (s.between c b a h e) k);
    }

pub gt_z_strict : Strict (λ a b. lt_z b a)
gt_z_strict = flip_strict lt_z_strict

-- ---- the place found
-- place k is the lowest of the extreme ones
pub record Extreme (before : ℤ → ℤ → Bool) (n : ℕ) (p : ℕ → Bool) (f : ℕ → ℤ) (k : ℕ) : Type 0 where
  pub within : k < n
  pub passes : p k ≡ true
  pub bounds : (i : ℕ) → i < n → p i ≡ true → before (f i) (f k) ≡ false
  pub lowest : (i : ℕ) → i < k → p i ≡ true → before (f k) (f i) ≡ true

-- what was found: such a place, or none passes
Found : (ℤ → ℤ → Bool) → ℕ → (ℕ → Bool) → (ℕ → ℤ) → Option ℕ → Type 0
Found before n p f none = (i : ℕ) → i < n → p i ≡ false
Found before n p f (some k) = Extreme before n p f k

-- what holds below n and at n holds below suc n
below_suc : (P : ℕ → Type 0) {n : ℕ} → ((i : ℕ) → i < n → P i) → P n → (i : ℕ) → i < suc n → P i
below_suc P h k i l = ⊎_elim (λ e. subst P (sym e) k) (λ m. h i m) (eq-or-lt_of_le (le_of_suc-le-suc l))

module _ (before : ℤ → ℤ → Bool) (strict : Strict before) (p : ℕ → Bool) (f : ℕ → ℤ) where
  -- place n passes and k was found below it: one of the two is the lowest extreme one
  beside_found : (n k : ℕ) (t : Bool) → before (f n) (f k) ≡ t → p n ≡ true → Extreme before n p f k → Found before (suc n) p f (cond t (some n) (some k))
  unfolding Found
  beside_found n k true b e h =
      record {
        within = le_refl (suc n);
        passes = e;
        bounds = below_suc (λ i. p i ≡ true → before (f i) (f n) ≡ false) (λ i l q. not_true_false (before (f i) (f n)) (λ c. clash (strict.trans (f i) (f n) (f k) c b) (h.bounds i l q))) (λ q. strict.irrefl (f n));
        lowest = λ i l q. strict.between (f n) (f i) (f k) b (h.bounds i l q);
      }
  beside_found n k false b e h =
      record {
        within = omega (arith, h.within);
        passes = h.passes;
        bounds = below_suc (λ i. p i ≡ true → before (f i) (f k) ≡ false) h.bounds (λ q. b);
        lowest = h.lowest;
      }

  found_step : (n : ℕ) (t : Bool) → p n ≡ t → (o : Option ℕ) → Found before n p f o → Found before (suc n) p f (beside before f o n t)
  unfolding Found
  found_step n false e none h = below_suc (λ i. p i ≡ false) h e
  found_step n false e (some k) h =
      record {
        within = omega (arith, h.within);
        passes = h.passes;
        bounds = below_suc (λ i. p i ≡ true → before (f i) (f k) ≡ false) h.bounds (λ q. clash q e);
        lowest = h.lowest;
      }
  found_step n true e none h =
      record {
        within = le_refl (suc n);
        passes = e;
        bounds = below_suc (λ i. p i ≡ true → before (f i) (f n) ≡ false) (λ i l q. clash q (h i l)) (λ q. strict.irrefl (f n));
        lowest = λ i l q. clash q (h i l);
      }
  found_step n true e (some k) h = beside_found n k (before (f n) (f k)) refl e h

  found : (n : ℕ) → Found before n p f (extreme before n p f)
  unfolding extreme Found
  found zero = λ i h. absurd (omega arith)
  found (suc n) = found_step n (p n) refl (extreme before n p f) (found n)

  -- the place found is such a place
  pub extreme_sound : {n k : ℕ} → extreme before n p f ≡ some k → Extreme before n p f k
  unfolding Found
  extreme_sound {n} {k} e = subst (Found before n p f) e (found n)

  pub extreme_none : {n : ℕ} → extreme before n p f ≡ none → (i : ℕ) → i < n → p i ≡ false
  unfolding Found
  extreme_none {n} e = subst (Found before n p f) e (found n)

  -- no other place is one
  pub extreme_unique : {n k l : ℕ} → Extreme before n p f k → Extreme before n p f l → k ≡ l
  extreme_unique {n} {k} {l} h g =
      le_antisymm (by_contra k l (λ m. clash (h.lowest l m g.passes) (g.bounds k h.within h.passes)))
      (by_contra l k (λ m. clash (g.lowest k m h.passes) (h.bounds l g.within g.passes)))

  -- where a place passes, one is found
  pub extreme_found : {n i : ℕ} → i < n → p i ≡ true → (k : ℕ) × (extreme before n p f ≡ some k)
  extreme_found {n} {i} l q = some_found (extreme before n p f) refl
    where
      some_found : (o : Option ℕ) → extreme before n p f ≡ o → (k : ℕ) × (extreme before n p f ≡ some k)
      some_found none e = clash q (extreme_none e i l)
      some_found (some k) e = (k, e)

  pub extreme_complete : {n k : ℕ} → Extreme before n p f k → extreme before n p f ≡ some k
  extreme_complete {n} {k} h =
      let r = extreme_found h.within h.passes in
      r.1 ∙ ap some (extreme_unique (extreme_sound r.1) h)

-- ---- congruence: the test and the values below n alone count
module _ (before : ℤ → ℤ → Bool) (strict : Strict before) (n : ℕ) (p q : ℕ → Bool) (f g : ℕ → ℤ)
    (same_test : (i : ℕ) → i < n → p i ≡ q i) (same-value : (i : ℕ) → i < n → f i ≡ g i) where
  same_before : (i k : ℕ) → i < n → k < n → before (f i) (f k) ≡ before (g i) (g k)
  same_before i k l m = λ d. before (same-value i l d) (same-value k m d)

  carried : {k : ℕ} → Extreme before n p f k → Extreme before n q g k
  carried {k} h =
      record {
        within = h.within;
        passes = sym (same_test k h.within) ∙ h.passes;
        bounds = λ i l e. sym (same_before i k l h.within) ∙ h.bounds i l (same_test i l ∙ e);
        lowest = λ i l e. let m : i < n = omega (arith, h.within) in sym (same_before k i h.within m) ∙ h.lowest i l (same_test i m ∙ e);
      }

  pub extreme_cong : extreme before n p f ≡ extreme before n q g
  extreme_cong = by_place (extreme before n p f) (extreme before n q g) refl refl
    where
      by_place : (o u : Option ℕ) → extreme before n p f ≡ o → extreme before n q g ≡ u → extreme before n p f ≡ extreme before n q g
      by_place (some k) u e r = e ∙ sym (extreme_complete before strict q g (carried (extreme_sound before strict p f e)))
      by_place none none e r = e ∙ sym r
      by_place none (some k) e r =
          let h = extreme_sound before strict q g r in
          clash (same_test k h.within ∙ h.passes) (extreme_none before strict p f e k h.within)

  -- and so is the extreme value
  pub extreme_value_cong : value_at f (extreme before n p f) ≡ value_at g (extreme before n q g)
  extreme_value_cong = by_place (extreme before n p f) refl ∙ ap (value_at g) extreme_cong
    where
      by_place : (o : Option ℕ) → extreme before n p f ≡ o → value_at f (extreme before n p f) ≡ value_at g (extreme before n p f)
      by_place none e = ap (value_at f) e ∙ sym (ap (value_at g) e)
      by_place (some k) e = ap (value_at f) e ∙ same-value k (extreme_sound before strict p f e).within ∙ sym (ap (value_at g) e)

-- ---- the least and the greatest bound the values that pass
module _ (n : ℕ) (p : ℕ → Bool) (f : ℕ → ℤ) {i : ℕ} (within : i < n) (passes : p i ≡ true) where
  -- the extreme value is attained, at the lowest place that attains it
  pub attained : (before : ℤ → ℤ → Bool) → Strict before → (k : ℕ) × Extreme before n p f k × (value_at f (extreme before n p f) ≡ f k)
  attained before strict =
      let r = extreme_found before strict p f within passes in
      (r.0, extreme_sound before strict p f r.1, ap (value_at f) r.1)

  bounded : (before : ℤ → ℤ → Bool) → Strict before → before (f i) (value_at f (extreme before n p f)) ≡ false
  bounded before strict =
      let r = attained before strict in
      ap (before (f i)) r.2 ∙ r.1.bounds i within passes

  pub least_bounds : least n p f ≤ℤ f i
  least_bounds = lt_z_false (f i) (least n p f) (bounded lt_z lt_z_strict)

  pub greatest_bounds : f i ≤ℤ greatest n p f
  greatest_bounds = lt_z_false (greatest n p f) (f i) (bounded (λ a b. lt_z b a) gt_z_strict)
