-- Laws of membership: by the places of the list, with one more number at its end, and of two lists. Assumes nothing.
use mathlib.Core.Path.{◌≡◌, refl, sym, ap}
use mathlib.Core.Logic.{◌≢◌, ⊎_elim}
use mathlib.Core.Bool.{Bool, true, false, ◌||◌, false≢true}
use mathlib.Core.List.{List, [], ◌∷◌, ◌++◌}
use Prim.Native.Nat.{ℕ, zero, suc, ◌<◌, suc-le-suc}
use native.Mathlib.Nat.{le_of_suc-le-suc}
use native.Mathlib.Omega.{arith}
use lib.Dec.{eqb}
use lib.ListN.{length, get_or, length-append}
use lib.Seq.{get_or-append_seam}
use borrow.Author.Tests.{ne_eqb, eqb-true, eqb-false}
use Rattle.integers.specs.Member.{member}
use Rattle.integers.proofs.Laws.Truth.{||_either, ||_neither}

-- a member stands at a place of the list
pub member_true : (r : ℕ) (rs : List ℕ) → member r rs ≡ true → (k : ℕ) × (k < length rs) × (get_or rs k 0 ≡ r)
member_true r [] e = absurd (false≢true e)
member_true r (x ∷ rs) e = ⊎_elim here (λ t. there (member_true r rs t)) (||_either (eqb r x) (member r rs) e)
  where
    here : eqb r x ≡ true → (k : ℕ) × (k < length (x ∷ rs)) × (get_or (x ∷ rs) k 0 ≡ r)
    here t = (0, omega arith, sym (eqb-true r x t))

    there : (k : ℕ) × (k < length rs) × (get_or rs k 0 ≡ r) → (k : ℕ) × (k < length (x ∷ rs)) × (get_or (x ∷ rs) k 0 ≡ r)
    there t = (suc t.0, suc-le-suc t.1, t.2)

-- what is no member stands at none
pub member_false : (r : ℕ) (rs : List ℕ) → member r rs ≡ false → (k : ℕ) → k < length rs → get_or rs k 0 ≢ r
member_false r [] e k h q = absurd (omega arith)
member_false r (x ∷ rs) e zero h q = eqb-false r x (||_neither (eqb r x) (member r rs) e).0 (sym q)
member_false r (x ∷ rs) e (suc k) h q = member_false r rs (||_neither (eqb r x) (member r rs) e).1 k (le_of_suc-le-suc h) q

-- so a list decides by its places whether it has a member
pub is_member : (r : ℕ) (rs : List ℕ) (k : ℕ) → k < length rs → get_or rs k 0 ≡ r → member r rs ≡ true
is_member r rs k h e = by (member r rs) refl
  where
    by : (t : Bool) → member r rs ≡ t → member r rs ≡ true
    by true q = q
    by false q = absurd (member_false r rs q k h e)

pub no_member : (r : ℕ) (rs : List ℕ) → ((k : ℕ) → k < length rs → get_or rs k 0 ≢ r) → member r rs ≡ false
no_member r rs none_is = by (member r rs) refl
  where
    by : (t : Bool) → member r rs ≡ t → member r rs ≡ false
    by false q = q
    by true q = let at = member_true r rs q in absurd (none_is at.0 at.1 at.2)

-- one more at the end
pub member_last : (rs : List ℕ) (x : ℕ) → member x (rs ++ (x ∷ [])) ≡ true
member_last rs x = is_member x (rs ++ (x ∷ [])) (length rs) (omega (arith, length-append rs (x ∷ []))) (get_or-append_seam rs x [] 0)

pub member_other : (r : ℕ) (rs : List ℕ) (x : ℕ) → r ≢ x → member r (rs ++ (x ∷ [])) ≡ member r rs
member_other r [] x d = rw (ne_eqb r x d)
member_other r (y ∷ rs) x d = ap (λ t. eqb r y || t) (member_other r rs x d)
