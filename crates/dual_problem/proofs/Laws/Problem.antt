-- Laws of the problem: what a change of the multipliers does to the objective, which is all that the distance bound and the theorems
-- on moves rest on; which places are in the up set and in the low set. Assumes nothing.
pub mod Ceilings
pub mod Same
pub mod Sets
pub mod Distance
pub mod Zeros
use mathlib.Core.Path.{◌≡◌, refl, sym, ◌∙◌, ap}
use mathlib.Core.List.{List, [], ◌∷◌}
use Prim.Native.Nat.{ℕ, ◌*◌, ◌<◌}
use lib.IntN.{ℤ, pos, neg_ℤ, ◌+ℤ◌, ◌-ℤ◌, ◌*ℤ◌}
use Rattle.integers.proofs.Laws.Solver.{con, ⊝◌, ◌⊕◌, ◌⊗◌, ◌⊖◌, x₀, x₁, x₂, x₃, x₄, x₅, x₆, solve}
use Rattle.integers.specs.Sum.{sum}
use Rattle.integers.proofs.Laws.Sum.{sum_cong, sum_cong₂, sum-+ℤ, sum-*ℤ}
use Rattle.integers.specs.Gram.{Gram, bilinear, quadratic}
use Rattle.integers.proofs.Laws.Gram.{bilinear_cong, bilinear_rows, quadratic_expand}
use Rattle.training_file.specs.declared.parameters.Parameters.{Parameters}
use Rattle.training_file.specs.declared.item.Item.{Item}
use Rattle.training_file.specs.declared.item.Label.{Label}
use Rattle.training_file.specs.declared.item.Label.TheVariants.{LookedUp, PassedOver}
use Rattle.dual_problem.specs.Kernel.{FeaturesInRange}
use Rattle.dual_problem.proofs.Laws.Kernel.{kernel_gram}
use Rattle.dual_problem.specs.Problem.{Problem, problem, sign, y, gradient, double_sum, objective, finer_objective}

sign_square : (l : Label) → sign l *ℤ sign l ≡ pos 1
sign_square LookedUp = refl
sign_square PassedOver = refl

-- the change from m times a to v, with the label's sign: u_i = y_i × (v_i − m × a_i)
abbrev pub change : Problem → ℕ → (ℕ → ℕ) → (ℕ → ℕ) → ℕ → ℤ
change P m a v i = y P i *ℤ (pos (v i) -ℤ pos m *ℤ pos (a i))

module _ (P : Problem) where
  -- the double sum is the quadratic form of v_i × y_i
  double_sum_quadratic : (v : ℕ → ℕ) → double_sum P v ≡ quadratic P.count P.kernel (λ i. pos (v i) *ℤ y P i)
  unfolding double_sum bilinear
  double_sum_quadratic v =
      sum_cong₂ P.count P.count (λ i j. pos (v i) *ℤ pos (v j) *ℤ y P i *ℤ y P j *ℤ P.kernel i j) (λ i j. pos (v i) *ℤ y P i *ℤ (pos (v j) *ℤ y P j) *ℤ P.kernel i j)
      (λ i j l k. solve (pos (v i) ∷ pos (v j) ∷ y P i ∷ y P j ∷ P.kernel i j ∷ []) (x₀ ⊗ x₁ ⊗ x₂ ⊗ x₃ ⊗ x₄) (x₀ ⊗ x₂ ⊗ (x₁ ⊗ x₃) ⊗ x₄) refl)

  module _ (gram : Gram P.count P.kernel) (m : ℕ) (a v : ℕ → ℕ) where
    u : ℕ → ℤ
    u = change P m a v

    x : ℕ → ℤ
    x i = pos (a i) *ℤ y P i

    -- what the quadratic form and the sum of the multipliers become
    quadratic_changed : double_sum P v ≡ quadratic P.count P.kernel u +ℤ pos 2 *ℤ pos m *ℤ bilinear P.count P.kernel u x +ℤ pos m *ℤ pos m *ℤ double_sum P a
    unfolding u x
    quadratic_changed =
        double_sum_quadratic v
        ∙ bilinear_cong P.count P.kernel (λ i. pos (v i) *ℤ y P i) (λ i. u i +ℤ pos m *ℤ x i) (λ i. pos (v i) *ℤ y P i) (λ i. u i +ℤ pos m *ℤ x i) at_place at_place
        ∙ quadratic_expand gram u x (pos m)
        ∙ ap (λ z. quadratic P.count P.kernel u +ℤ pos 2 *ℤ pos m *ℤ bilinear P.count P.kernel u x +ℤ pos m *ℤ pos m *ℤ z) (sym (double_sum_quadratic a))
      where
        at_place : (i : ℕ) → i < P.count → pos (v i) *ℤ y P i ≡ u i +ℤ pos m *ℤ x i
        at_place i l = solve (y P i ∷ pos (v i) ∷ pos (a i) ∷ pos m ∷ []) (x₁ ⊗ x₀) (x₀ ⊗ (x₁ ⊖ x₃ ⊗ x₂) ⊕ x₃ ⊗ (x₂ ⊗ x₀)) refl

    sum_changed_to : sum P.count (λ i. pos (v i)) ≡ sum P.count (λ i. y P i *ℤ u i) +ℤ pos m *ℤ sum P.count (λ i. pos (a i))
    unfolding u
    sum_changed_to =
        sum_cong P.count (λ i. pos (v i)) (λ i. y P i *ℤ u i +ℤ pos m *ℤ pos (a i)) at_place
        ∙ sum-+ℤ P.count (λ i. y P i *ℤ u i) (λ i. pos m *ℤ pos (a i))
        ∙ ap (λ z. sum P.count (λ i. y P i *ℤ u i) +ℤ z) (sum-*ℤ P.count (pos m) (λ i. pos (a i)))
      where
        at_place : (i : ℕ) → i < P.count → pos (v i) ≡ y P i *ℤ u i +ℤ pos m *ℤ pos (a i)
        at_place i l =
            solve (pos (v i) ∷ pos (a i) ∷ pos m ∷ []) x₀ (con (pos 1) ⊗ (x₀ ⊖ x₂ ⊗ x₁) ⊕ x₂ ⊗ x₁) refl
            ∙ ap (λ z. z *ℤ (pos (v i) -ℤ pos m *ℤ pos (a i)) +ℤ pos m *ℤ pos (a i)) (sym (sign_square (P.label i)))
            ∙ solve (y P i ∷ (pos (v i) -ℤ pos m *ℤ pos (a i)) ∷ (pos m *ℤ pos (a i)) ∷ []) (x₀ ⊗ x₀ ⊗ x₁ ⊕ x₂) (x₀ ⊗ (x₀ ⊗ x₁) ⊕ x₂) refl

    gradient_weighed : sum P.count (λ i. u i *ℤ gradient P a i) ≡ bilinear P.count P.kernel u x +ℤ neg_ℤ (pos P.grid) *ℤ sum P.count (λ i. y P i *ℤ u i)
    unfolding u x gradient
    gradient_weighed =
        sum_cong P.count (λ i. u i *ℤ gradient P a i) (λ i. u i *ℤ row i +ℤ neg_ℤ (pos P.grid) *ℤ (y P i *ℤ u i))
        (λ i l. solve (u i ∷ row i ∷ pos P.grid ∷ y P i ∷ []) (x₀ ⊗ (x₁ ⊖ x₂ ⊗ x₃)) (x₀ ⊗ x₁ ⊕ ⊝ x₂ ⊗ (x₃ ⊗ x₀)) refl)
        ∙ sum-+ℤ P.count (λ i. u i *ℤ row i) (λ i. neg_ℤ (pos P.grid) *ℤ (y P i *ℤ u i))
        ∙ (λ d. sym (bilinear_rows P.count P.kernel u x) d +ℤ sum-*ℤ P.count (neg_ℤ (pos P.grid)) (λ i. y P i *ℤ u i) d)
      where
        row : ℕ → ℤ
        row i = sum P.count (λ j. x j *ℤ P.kernel i j)

    -- D'(v) = m² D(a) + Q(u) + 2 m Σ u_i G_i
    pub expansion : finer_objective P m v ≡ pos (m * m) *ℤ objective P a +ℤ (quadratic P.count P.kernel (change P m a v) +ℤ pos 2 *ℤ pos m *ℤ sum P.count (λ i. change P m a v i *ℤ gradient P a i))
    unfolding u objective finer_objective
    expansion =
        (λ d. quadratic_changed d -ℤ pos 2 *ℤ pos P.grid *ℤ pos m *ℤ sum_changed_to d)
        ∙ solve (quadratic P.count P.kernel u ∷ bilinear P.count P.kernel u x ∷ double_sum P a ∷ pos P.grid ∷ pos m ∷ sum P.count (λ i. y P i *ℤ u i) ∷ sum P.count (λ i. pos (a i)) ∷ [])
        (x₀ ⊕ con (pos 2) ⊗ x₄ ⊗ x₁ ⊕ x₄ ⊗ x₄ ⊗ x₂ ⊖ con (pos 2) ⊗ x₃ ⊗ x₄ ⊗ (x₅ ⊕ x₄ ⊗ x₆))
        (x₄ ⊗ x₄ ⊗ (x₂ ⊖ con (pos 2) ⊗ x₃ ⊗ x₆) ⊕ (x₀ ⊕ con (pos 2) ⊗ x₄ ⊗ (x₁ ⊕ ⊝ x₃ ⊗ x₅))) refl
        ∙ ap (λ z. pos (m * m) *ℤ objective P a +ℤ (quadratic P.count P.kernel u +ℤ pos 2 *ℤ pos m *ℤ z)) (sym gradient_weighed)

-- the kernel values of any items are a Gram form
pub problem_gram : (p : Parameters) (items : List Item) → FeaturesInRange items → Gram (problem p items).count (problem p items).kernel
problem_gram p items range = kernel_gram p.kernel p.used items range
