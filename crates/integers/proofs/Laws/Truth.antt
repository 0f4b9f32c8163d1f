-- Tests, as truth values: a test that is both true and false, one that is not the one, a conjunction, a disjunction, and a choice. Assumes nothing.
use mathlib.Core.Path.{◌≡◌, refl, sym, ◌∙◌}
use mathlib.Core.Logic.{◌⊎◌, inl, inr}
use mathlib.Core.Bool.{Bool, true, false, ◌&&◌, ◌||◌, cond, true≢false}

-- no test is both
pub clash : {X : Type 0} {t : Bool} → t ≡ true → t ≡ false → X
clash h k = absurd (true≢false (sym h ∙ k))

pub not_true_false : (t : Bool) → (t ≡ true → ⊥) → t ≡ false
not_true_false true c = absurd (c refl)
not_true_false false c = refl

pub not_false_true : (t : Bool) → (t ≡ false → ⊥) → t ≡ true
not_false_true true c = refl
not_false_true false c = absurd (c refl)

-- ---- a conjunction
pub &&_true : {s t : Bool} → s ≡ true → t ≡ true → s && t ≡ true
&&_true h k = λ i. h i && k i

pub &&_left : (s t : Bool) → s && t ≡ true → s ≡ true
&&_left true t h = refl
&&_left false t h = h

pub &&_right : (s t : Bool) → s && t ≡ true → t ≡ true
&&_right true t h = h
&&_right false t h = clash h refl

pub &&_both : (s t : Bool) → s && t ≡ true → (s ≡ true) × (t ≡ true)
&&_both s t h = (&&_left s t h, &&_right s t h)

pub &&_false_left : {s : Bool} (t : Bool) → s ≡ false → s && t ≡ false
&&_false_left t h = λ i. h i && t

pub &&_false_right : (s : Bool) {t : Bool} → t ≡ false → s && t ≡ false
&&_false_right true h = h
&&_false_right false h = refl

-- ---- a disjunction
pub ||_either : (s t : Bool) → (s || t) ≡ true → (s ≡ true) ⊎ (t ≡ true)
||_either true t h = inl refl
||_either false t h = inr h

pub ||_neither : (s t : Bool) → (s || t) ≡ false → (s ≡ false) × (t ≡ false)
||_neither true t h = clash refl h
||_neither false t h = (refl, h)

-- ---- a choice
-- what holds of both values holds of the one that was chosen
pub chose_either : {A : Type 0} (Q : A → Type 0) (b : Bool) {x y : A} → Q x → Q y → Q (cond b x y)
chose_either Q true p q = p
chose_either Q false p q = q

module _ {A : Type 0} {x y z : A} where
  -- it chose the first where it is not the second
  pub chose_first : (b : Bool) → (y ≡ z → ⊥) → cond b x y ≡ z → (b ≡ true) × (x ≡ z)
  chose_first true other e = (refl, e)
  chose_first false other e = absurd (other e)

  pub chose_second : (b : Bool) → (x ≡ z → ⊥) → cond b x y ≡ z → (b ≡ false) × (y ≡ z)
  chose_second true other e = absurd (other e)
  chose_second false other e = (refl, e)
