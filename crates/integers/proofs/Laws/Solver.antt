-- A solver for equations of the commutative ring ℤ, by reflection. An equation is written as two expressions over the places of a
-- list of integers; each is brought into a normal form, a sum of monomials with their coefficients, which antt computes; where the two
-- normal forms are the same, the two sides are equal, whatever the integers: `solve ρ left right refl`. Assumes nothing.
pub mod Same
use mathlib.Core.Path.{◌≡◌, refl, sym, ◌∙◌, ap}
use mathlib.Core.Bool.{Bool, true, false}
use mathlib.Core.List.{List, [], ◌∷◌}
use Prim.Native.Nat.{ℕ, zero, suc}
use lib.Dec.{T, eqb, leb, ltb, eqb→eq}
use lib.ListN.{get_or}
use lib.IntN.{ℤ, pos, negsuc, neg_ℤ, ◌+ℤ◌, ◌-ℤ◌, ◌*ℤ◌, +ℤ_assoc, +ℤ_idl, +ℤ_idr, zero-*ℤ, *ℤ-zero}
use Rattle.integers.proofs.Laws.Ring.{+ℤ_left_comm, +ℤ_swap, one-*ℤ, *ℤ_oneʳ, minus_one_*ℤ, *ℤ_assoc, *ℤ_left_comm, *ℤ_swap, *ℤ_distribˡ-+ℤ, *ℤ_distribʳ-+ℤ}
pub use Rattle.integers.proofs.Laws.Solver.Same.{choose, same, choose_holds, same_eq}

infixl 6 ◌⊕◌ ◌⊖◌
infixl 7 ◌⊗◌
infix 8 ⊝◌
-- ---- expressions
pub data Expr : Type 0 where
  var : ℕ → Expr
  con : ℤ → Expr
  ◌⊕◌ : Expr → Expr → Expr
  ◌⊗◌ : Expr → Expr → Expr
  ⊝◌ : Expr → Expr

-- the first eight places
abbrev pub x₀ : Expr
x₀ = var 0

abbrev pub x₁ : Expr
x₁ = var 1

abbrev pub x₂ : Expr
x₂ = var 2

abbrev pub x₃ : Expr
x₃ = var 3

abbrev pub x₄ : Expr
x₄ = var 4

abbrev pub x₅ : Expr
x₅ = var 5

abbrev pub x₆ : Expr
x₆ = var 6

abbrev pub ◌⊖◌ : Expr → Expr → Expr
a ⊖ b = a ⊕ ⊝ b

-- an expression's value, where place i of the list stands for `var i`
abbrev pub value : List ℤ → Expr → ℤ
value ρ (var i) = get_or ρ i (pos 0)
value ρ (con c) = c
value ρ (a ⊕ b) = value ρ a +ℤ value ρ b
value ρ (a ⊗ b) = value ρ a *ℤ value ρ b
value ρ (⊝ a) = neg_ℤ (value ρ a)

-- ---- monomials: the places of the factors, rising
abbrev pub factor : ℕ → List ℕ → List ℕ
factor i [] = i ∷ []
factor i (j ∷ m) = choose (leb i j) (λ _. i ∷ j ∷ m) (λ _. j ∷ factor i m)

abbrev pub factors : List ℕ → List ℕ → List ℕ
factors [] n = n
factors (i ∷ m) n = factor i (factors m n)

-- the lexicographic order, which a common factor keeps: so `scale` needs no sorting
abbrev pub before : List ℕ → List ℕ → Bool
before [] n = false
before (i ∷ m) [] = true
before (i ∷ m) (j ∷ n) = choose (eqb i j) (λ _. before m n) (λ _. ltb i j)

-- ---- normal forms: monomials in that order, each once, with a coefficient that isn't 0
pub data Normal : Type 0 where
  none : Normal
  term : ℤ → List ℕ → Normal → Normal

abbrev pub keep : ℤ → List ℕ → Normal → Normal
keep (pos zero) m p = p
keep (pos (suc c)) m p = term (pos (suc c)) m p
keep (negsuc c) m p = term (negsuc c) m p

-- c times the monomial m, merged into q; f adds what follows it
abbrev pub merge : (Normal → Normal) → ℤ → List ℕ → Normal → Normal
merge f c m none = term c m (f none)
merge f c m (term k n q) =
    choose (same m n) (λ _. keep (c +ℤ k) m (f q))
    (λ _. choose (before m n) (λ _. term c m (f (term k n q))) (λ _. term k n (merge f c m q)))

abbrev pub add : Normal → Normal → Normal
add none q = q
add (term c m p) q = merge (add p) c m q

abbrev pub scale : ℤ → List ℕ → Normal → Normal
scale c m none = none
scale c m (term k n p) = term (c *ℤ k) (factors m n) (scale c m p)

abbrev pub multiply : Normal → Normal → Normal
multiply none q = none
multiply (term c m p) q = add (scale c m q) (multiply p q)

abbrev pub normal : Expr → Normal
normal (var i) = term (pos 1) (i ∷ []) none
normal (con c) = keep c [] none
normal (a ⊕ b) = add (normal a) (normal b)
normal (a ⊗ b) = multiply (normal a) (normal b)
normal (⊝ a) = scale (negsuc 0) [] (normal a)

-- ---- soundness
module _ (ρ : List ℤ) where
  product : List ℕ → ℤ
  product [] = pos 1
  product (i ∷ m) = get_or ρ i (pos 0) *ℤ product m

  total : Normal → ℤ
  total none = pos 0
  total (term c m p) = c *ℤ product m +ℤ total p

  product_factor : (i : ℕ) (m : List ℕ) → product (factor i m) ≡ get_or ρ i (pos 0) *ℤ product m
  unfolding product
  product_factor i [] = refl
  product_factor i (j ∷ m) =
      choose_holds (λ n. product n ≡ get_or ρ i (pos 0) *ℤ (get_or ρ j (pos 0) *ℤ product m)) (leb i j) (λ _. i ∷ j ∷ m) (λ _. j ∷ factor i m) (λ t. refl)
      (ap (λ x. get_or ρ j (pos 0) *ℤ x) (product_factor i m) ∙ *ℤ_left_comm (get_or ρ j (pos 0)) (get_or ρ i (pos 0)) (product m))

  product_factors : (m n : List ℕ) → product (factors m n) ≡ product m *ℤ product n
  unfolding product
  product_factors [] n = sym (one-*ℤ (product n))
  product_factors (i ∷ m) n =
      product_factor i (factors m n) ∙ ap (λ x. get_or ρ i (pos 0) *ℤ x) (product_factors m n) ∙ sym (*ℤ_assoc (get_or ρ i (pos 0)) (product m) (product n))

  total_keep : (c : ℤ) (m : List ℕ) (p : Normal) → total (keep c m p) ≡ c *ℤ product m +ℤ total p
  unfolding total
  total_keep (pos zero) m p = sym (ap (λ x. x +ℤ total p) (zero-*ℤ (product m)) ∙ +ℤ_idl (total p))
  total_keep (pos (suc c)) m p = refl
  total_keep (negsuc c) m p = refl

  -- where f adds `rest`, merging adds the term and `rest`
  total_merge : (f : Normal → Normal) (rest : ℤ) → ((q : Normal) → total (f q) ≡ rest +ℤ total q) → (c : ℤ) (m : List ℕ) (q : Normal) → total (merge f c m q) ≡ c *ℤ product m +ℤ rest +ℤ total q
  unfolding total
  total_merge f rest h c m none = ap (λ x. c *ℤ product m +ℤ x) (h none) ∙ sym (+ℤ_assoc (c *ℤ product m) rest (pos 0))
  total_merge f rest h c m (term k n q) =
      choose_holds (λ p. total p ≡ c *ℤ product m +ℤ rest +ℤ (k *ℤ product n +ℤ total q)) (same m n)
      (λ _. keep (c +ℤ k) m (f q)) (λ _. choose (before m n) (λ _. term c m (f (term k n q))) (λ _. term k n (merge f c m q)))
      (λ t. total_keep (c +ℤ k) m (f q) ∙ (λ i. *ℤ_distribʳ-+ℤ c k (product m) i +ℤ h q i) ∙ +ℤ_swap (c *ℤ product m) (k *ℤ product m) rest (total q) ∙ ap (λ l. c *ℤ product m +ℤ rest +ℤ (k *ℤ product l +ℤ total q)) (same_eq m n t))
      (choose_holds (λ p. total p ≡ c *ℤ product m +ℤ rest +ℤ (k *ℤ product n +ℤ total q)) (before m n) (λ _. term c m (f (term k n q))) (λ _. term k n (merge f c m q))
      (λ t. ap (λ x. c *ℤ product m +ℤ x) (h (term k n q)) ∙ sym (+ℤ_assoc (c *ℤ product m) rest (k *ℤ product n +ℤ total q)))
      (ap (λ x. k *ℤ product n +ℤ x) (total_merge f rest h c m q) ∙ +ℤ_left_comm (k *ℤ product n) (c *ℤ product m +ℤ rest) (total q)))

  total_add : (p q : Normal) → total (add p q) ≡ total p +ℤ total q
  unfolding total
  total_add none q = sym (+ℤ_idl (total q))
  total_add (term c m p) q = total_merge (add p) (total p) (total_add p) c m q

  total_scale : (c : ℤ) (m : List ℕ) (p : Normal) → total (scale c m p) ≡ c *ℤ product m *ℤ total p
  unfolding total
  total_scale c m none = sym (*ℤ-zero (c *ℤ product m))
  total_scale c m (term k n p) =
      (λ i. (ap (λ x. c *ℤ k *ℤ x) (product_factors m n) ∙ *ℤ_swap c k (product m) (product n)) i +ℤ total_scale c m p i)
      ∙ sym (*ℤ_distribˡ-+ℤ (c *ℤ product m) (k *ℤ product n) (total p))

  total_multiply : (p q : Normal) → total (multiply p q) ≡ total p *ℤ total q
  unfolding total
  total_multiply none q = sym (zero-*ℤ (total q))
  total_multiply (term c m p) q =
      total_add (scale c m q) (multiply p q) ∙ (λ i. total_scale c m q i +ℤ total_multiply p q i) ∙ sym (*ℤ_distribʳ-+ℤ (c *ℤ product m) (total p) (total q))

  total_normal : (e : Expr) → total (normal e) ≡ value ρ e
  unfolding total product
  total_normal (var i) = +ℤ_idr (pos 1 *ℤ (get_or ρ i (pos 0) *ℤ pos 1)) ∙ one-*ℤ (get_or ρ i (pos 0) *ℤ pos 1) ∙ *ℤ_oneʳ (get_or ρ i (pos 0))
  total_normal (con c) = total_keep c [] none ∙ +ℤ_idr (c *ℤ pos 1) ∙ *ℤ_oneʳ c
  total_normal (a ⊕ b) = total_add (normal a) (normal b) ∙ (λ i. total_normal a i +ℤ total_normal b i)
  total_normal (a ⊗ b) = total_multiply (normal a) (normal b) ∙ (λ i. total_normal a i *ℤ total_normal b i)
  total_normal (⊝ a) = total_scale (negsuc 0) [] (normal a) ∙ minus_one_*ℤ (total (normal a)) ∙ ap neg_ℤ (total_normal a)

  pub solve : (a b : Expr) → normal a ≡ normal b → value ρ a ≡ value ρ b
  solve a b h = sym (total_normal a) ∙ ap total h ∙ total_normal b

-- ---- examples, with the time that each added to a check (one core, the mean of many copies of it), measured with the kit before rattle-kit-13f
-- two variables, degree two: 0.002 s
square_of_sum : (a b : ℤ) → (a +ℤ b) *ℤ (a +ℤ b) ≡ a *ℤ a +ℤ pos 2 *ℤ (a *ℤ b) +ℤ b *ℤ b
square_of_sum a b = solve (a ∷ b ∷ []) ((x₀ ⊕ x₁) ⊗ (x₀ ⊕ x₁)) (x₀ ⊗ x₀ ⊕ con (pos 2) ⊗ (x₀ ⊗ x₁) ⊕ x₁ ⊗ x₁) refl

-- six variables, degree three: 0.006 s
product_of_sums : (a b c d e f : ℤ) → (a +ℤ b) *ℤ (c +ℤ d) *ℤ (e -ℤ f) ≡ a *ℤ c *ℤ e +ℤ b *ℤ c *ℤ e +ℤ a *ℤ d *ℤ e +ℤ b *ℤ d *ℤ e -ℤ f *ℤ (a +ℤ b) *ℤ (d +ℤ c)
product_of_sums a b c d e f =
    solve (a ∷ b ∷ c ∷ d ∷ e ∷ f ∷ []) ((x₀ ⊕ x₁) ⊗ (x₂ ⊕ x₃) ⊗ (x₄ ⊖ x₅))
    (x₀ ⊗ x₂ ⊗ x₄ ⊕ x₁ ⊗ x₂ ⊗ x₄ ⊕ x₀ ⊗ x₃ ⊗ x₄ ⊕ x₁ ⊗ x₃ ⊗ x₄ ⊖ x₅ ⊗ (x₀ ⊕ x₁) ⊗ (x₃ ⊕ x₂)) refl

-- six variables, degree three, 216 products a side, 56 monomials: 0.22 s
cube_of_sum : (a b c d e f : ℤ) → (a +ℤ b +ℤ c +ℤ d +ℤ e +ℤ f) *ℤ (a +ℤ b +ℤ c +ℤ d +ℤ e +ℤ f) *ℤ (a +ℤ b +ℤ c +ℤ d +ℤ e +ℤ f) ≡ (a +ℤ b +ℤ c +ℤ d +ℤ e +ℤ f) *ℤ ((f +ℤ e +ℤ d +ℤ c +ℤ b +ℤ a) *ℤ (c +ℤ b +ℤ a +ℤ d +ℤ f +ℤ e))
cube_of_sum a b c d e f =
    solve (a ∷ b ∷ c ∷ d ∷ e ∷ f ∷ [])
    ((x₀ ⊕ x₁ ⊕ x₂ ⊕ x₃ ⊕ x₄ ⊕ x₅) ⊗ (x₀ ⊕ x₁ ⊕ x₂ ⊕ x₃ ⊕ x₄ ⊕ x₅) ⊗ (x₀ ⊕ x₁ ⊕ x₂ ⊕ x₃ ⊕ x₄ ⊕ x₅))
    ((x₀ ⊕ x₁ ⊕ x₂ ⊕ x₃ ⊕ x₄ ⊕ x₅) ⊗ ((x₅ ⊕ x₄ ⊕ x₃ ⊕ x₂ ⊕ x₁ ⊕ x₀) ⊗ (x₂ ⊕ x₁ ⊕ x₀ ⊕ x₃ ⊕ x₅ ⊕ x₄))) refl
