-- Whether two monomials of the solver, as the places of their factors, are the same. Assumes nothing.
use mathlib.Core.Path.{◌≡◌, refl}
use mathlib.Core.Bool.{Bool, true, false}
use mathlib.Core.List.{List, [], ◌∷◌}
use Prim.Native.Nat.{ℕ}
use lib.Dec.{T, eqb, eqb→eq}

-- one of two, the other not computed
abbrev pub choose {ℓ} : {A : Type ℓ} → Bool → (Unit {0} → A) → (Unit {0} → A) → A
choose true f g = f tt
choose false f g = g tt

abbrev pub same : List ℕ → List ℕ → Bool
same [] [] = true
same [] (j ∷ n) = false
same (i ∷ m) [] = false
same (i ∷ m) (j ∷ n) = choose (eqb i j) (λ _. same m n) (λ _. false)

pub choose_holds {ℓ} : {A : Type ℓ} (P : A → Type 0) (t : Bool) (f g : Unit {0} → A) → (T t → P (f tt)) → P (g tt) → P (choose t f g)
choose_holds P true f g h k = h tt
choose_holds P false f g h k = k

pub same_eq : (m n : List ℕ) → T (same m n) → m ≡ n
same_eq [] [] h = refl
same_eq [] (j ∷ n) h = absurd h
same_eq (i ∷ m) [] h = absurd h
same_eq (i ∷ m) (j ∷ n) h =
    choose_holds (λ t. T t → i ∷ m ≡ j ∷ n) (eqb i j) (λ _. same m n) (λ _. false) (λ e h. (λ k. eqb→eq i j e k ∷ same_eq m n h k)) (λ h. absurd h) h
