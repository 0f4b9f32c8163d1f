-- That the definition of a text's parts is right: with a mark before each they are a mark and the text, and none of them has the mark in it.
-- Assumes nothing.
use mathlib.Core.Bool.{Bool, true, false, cond}
use mathlib.Core.Path.{◌≡◌, refl, sym, ◌∙◌, ap}
use mathlib.Core.List.{List, [], ◌∷◌}
use Prim.Native.Nat.{ℕ}
use native.Mathlib.Omega.{arith}
use borrow.Author.Tests.{eqb-true}
use lib.Dec.{eqb}
use lib.ListN.{length, drop}
use Rattle.text.specs.Parts.{AllFree, before, free, marked, parts}
use Rattle.text.proofs.Laws.Parts.{free-∷}

module _ (mark : ℕ) where
  -- a byte before the first part
  marked_before : (x : ℕ) (texts : List (List ℕ)) {text : List ℕ} → marked mark texts ≡ mark ∷ text → marked mark (before x texts) ≡ mark ∷ x ∷ text
  unfolding before marked
  marked_before x [] e = absurd (omega (arith, ap length e))
  marked_before x (part ∷ more) e = ap (λ t. mark ∷ x ∷ drop 1 t) e

  free_before : (x : ℕ) (texts : List (List ℕ)) → eqb x mark ≡ false → AllFree mark texts → AllFree mark (before x texts)
  unfolding AllFree before free
  free_before x [] e h = (free-∷ mark x [] e refl, tt)
  free_before x (part ∷ more) e h = (free-∷ mark x part e h.0, h.1)

  pub parts_marked : (text : List ℕ) → marked mark (parts mark text) ≡ mark ∷ text
  unfolding marked parts
  parts_marked [] = refl
  parts_marked (x ∷ text) = by (eqb x mark) refl (parts_marked text)
    where
      by : (b : Bool) → eqb x mark ≡ b → marked mark (parts mark text) ≡ mark ∷ text → marked mark (cond b ([] ∷ parts mark text) (before x (parts mark text))) ≡ mark ∷ x ∷ text
      by true e rest = ap (λ t. mark ∷ t) rest ∙ ap (λ y. mark ∷ y ∷ text) (sym (eqb-true x mark e))
      by false e rest = marked_before x (parts mark text) rest

  pub parts_free : (text : List ℕ) → AllFree mark (parts mark text)
  unfolding AllFree parts free
  parts_free [] = (refl, tt)
  parts_free (x ∷ text) = by (eqb x mark) refl (parts_free text)
    where
      by : (b : Bool) → eqb x mark ≡ b → AllFree mark (parts mark text) → AllFree mark (cond b ([] ∷ parts mark text) (before x (parts mark text)))
      by true e rest = (refl, rest)
      by false e rest = free_before x (parts mark text) e rest
