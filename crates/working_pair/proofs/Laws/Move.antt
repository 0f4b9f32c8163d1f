-- What a move by s does: the sum of a × y stays, each gradient changes by s × (K_jk − K_ik), and the objective by s² × η − 2 × s × g.
-- Of the kernel this uses only that its values are a Gram form. Assumes nothing.
pub mod Stuck
use mathlib.Core.Path.{◌≡◌, refl, sym, ◌∙◌, ap}
use mathlib.Core.List.{[], ◌∷◌}
use Prim.Native.Nat.{ℕ, ◌*◌, ◌<◌}
use lib.IntN.{ℤ, pos, neg_ℤ, ◌+ℤ◌, ◌-ℤ◌, ◌*ℤ◌, zero-*ℤ}
use Rattle.integers.proofs.Laws.Solver.{con, ⊝◌, ◌⊕◌, ◌⊗◌, ◌⊖◌, x₀, x₁, x₂, x₃, x₄, x₅, x₆, solve}
use Rattle.integers.specs.Sum.{sum}
use Rattle.integers.proofs.Laws.Sum.Places.{sum_changed₂, sum_only₂}
use Rattle.integers.specs.Gram.{Gram, quadratic}
use Rattle.integers.proofs.Laws.Gram.{gram_sym, bilinear_rows}
use Rattle.dual_problem.specs.Problem.{Problem, y, gradient, objective}
use Rattle.dual_problem.proofs.Laws.Problem.{change, expansion}
use Rattle.dual_problem.proofs.Laws.Problem.Distance.{finer_one_objective}
use Rattle.working_pair.specs.Step.{curvature}
use Rattle.working_pair.specs.Move.{Move}

module _ {P : Problem} {a b : ℕ → ℕ} {i j s : ℕ} (m : Move P a b i j s) where
  -- a × y at a place
  x : ℕ → ℤ
  x k = pos (a k) *ℤ y P k

  -- what i gives up, j takes
  pub move_balanced : sum P.count (λ k. pos (b k) *ℤ y P k) ≡ sum P.count (λ k. pos (a k) *ℤ y P k)
  unfolding x
  move_balanced =
      sum_changed₂ P.count i j m.i_within m.j_within m.apart x (λ k. pos (b k) *ℤ y P k) (λ k l c d. ap (λ w. pos w *ℤ y P k) (m.keeps k l c d))
      ∙ (λ d. sum P.count x +ℤ (m.lowers d -ℤ x i) +ℤ (m.raises d -ℤ x j))
      ∙ solve (sum P.count x ∷ x i ∷ x j ∷ pos s ∷ []) (x₀ ⊕ (x₁ ⊖ x₃ ⊖ x₁) ⊕ (x₂ ⊕ x₃ ⊖ x₂)) x₀ refl

  module _ (gram : Gram P.count P.kernel) where
    K : ℕ → ℕ → ℤ
    K = P.kernel

    -- by so much the code brings G up to the moved multipliers
    pub move_gradient : (k : ℕ) → k < P.count → gradient P b k ≡ gradient P a k +ℤ pos s *ℤ (P.kernel j k -ℤ P.kernel i k)
    unfolding gradient x K
    move_gradient k l =
        ap (λ z. z -ℤ pos P.grid *ℤ y P k)
        (sum_changed₂ P.count i j m.i_within m.j_within m.apart row (λ p. pos (b p) *ℤ y P p *ℤ K k p) (λ p q c d. ap (λ w. pos w *ℤ y P p *ℤ K k p) (m.keeps p q c d)))
        ∙ (λ d. sum P.count row +ℤ (m.lowers d *ℤ K k i -ℤ row i) +ℤ (m.raises d *ℤ K k j -ℤ row j) -ℤ pos P.grid *ℤ y P k)
        ∙ solve (sum P.count row ∷ x i ∷ x j ∷ pos s ∷ K k i ∷ K k j ∷ (pos P.grid *ℤ y P k) ∷ [])
        (x₀ ⊕ ((x₁ ⊖ x₃) ⊗ x₄ ⊖ x₁ ⊗ x₄) ⊕ ((x₂ ⊕ x₃) ⊗ x₅ ⊖ x₂ ⊗ x₅) ⊖ x₆) (x₀ ⊖ x₆ ⊕ x₃ ⊗ (x₅ ⊖ x₄)) refl
        ∙ (λ d. gradient P a k +ℤ pos s *ℤ (gram_sym gram k j l m.j_within d -ℤ gram_sym gram k i l m.i_within d))
      where
        row : ℕ → ℤ
        row p = x p *ℤ K k p

    -- the change with its sign: minus s at i, s at j, 0 elsewhere
    u : ℕ → ℤ
    u = change P 1 a b

    u_i : u i ≡ neg_ℤ (pos s)
    unfolding u x
    u_i =
        solve (y P i ∷ pos (b i) ∷ pos (a i) ∷ []) (x₀ ⊗ (x₁ ⊖ con (pos 1) ⊗ x₂)) (x₁ ⊗ x₀ ⊖ x₂ ⊗ x₀) refl
        ∙ ap (λ z. z -ℤ x i) m.lowers ∙ solve (x i ∷ pos s ∷ []) (x₀ ⊖ x₁ ⊖ x₀) (⊝ x₁) refl

    u_j : u j ≡ pos s
    unfolding u x
    u_j =
        solve (y P j ∷ pos (b j) ∷ pos (a j) ∷ []) (x₀ ⊗ (x₁ ⊖ con (pos 1) ⊗ x₂)) (x₁ ⊗ x₀ ⊖ x₂ ⊗ x₀) refl
        ∙ ap (λ z. z -ℤ x j) m.raises ∙ solve (x j ∷ pos s ∷ []) (x₀ ⊕ x₁ ⊖ x₀) x₁ refl

    u_other : (k : ℕ) → k < P.count → ¬ (k ≡ i) → ¬ (k ≡ j) → u k ≡ pos 0
    unfolding u
    u_other k l c d =
        ap (λ w. y P k *ℤ (pos w -ℤ pos 1 *ℤ pos (a k))) (m.keeps k l c d)
        ∙ solve (y P k ∷ pos (a k) ∷ []) (x₀ ⊗ (x₁ ⊖ con (pos 1) ⊗ x₁)) (con (pos 0)) refl

    -- a sum weighed with the change has two terms
    weighed : (f : ℕ → ℤ) → sum P.count (λ k. u k *ℤ f k) ≡ neg_ℤ (pos s) *ℤ f i +ℤ pos s *ℤ f j
    weighed f =
        sum_only₂ P.count i j m.i_within m.j_within m.apart (λ k. u k *ℤ f k) (λ k l c d. ap (λ z. z *ℤ f k) (u_other k l c d) ∙ zero-*ℤ (f k))
        ∙ (λ d. u_i d *ℤ f i +ℤ u_j d *ℤ f j)

    quadratic_move : quadratic P.count P.kernel u ≡ pos (s * s) *ℤ curvature P i j
    unfolding K
    quadratic_move =
        bilinear_rows P.count P.kernel u u
        ∙ weighed (λ k. sum P.count (λ l. u l *ℤ P.kernel k l))
        ∙ (λ d. neg_ℤ (pos s) *ℤ weighed (K i) d +ℤ pos s *ℤ weighed (K j) d)
        ∙ (λ d. neg_ℤ (pos s) *ℤ (neg_ℤ (pos s) *ℤ K i i +ℤ pos s *ℤ K i j) +ℤ pos s *ℤ (neg_ℤ (pos s) *ℤ gram_sym gram j i m.j_within m.i_within d +ℤ pos s *ℤ K j j))
        ∙ solve (pos s ∷ K i i ∷ K i j ∷ K j j ∷ []) (⊝ x₀ ⊗ (⊝ x₀ ⊗ x₁ ⊕ x₀ ⊗ x₂) ⊕ x₀ ⊗ (⊝ x₀ ⊗ x₂ ⊕ x₀ ⊗ x₃)) (x₀ ⊗ x₀ ⊗ (x₁ ⊕ x₃ ⊖ con (pos 2) ⊗ x₂)) refl

    -- a move by s changes the objective by s² × η − 2 × s × g
    pub move_objective : objective P b ≡ objective P a +ℤ (pos (s * s) *ℤ curvature P i j -ℤ pos 2 *ℤ pos s *ℤ (gradient P a i -ℤ gradient P a j))
    unfolding u
    move_objective =
        sym (finer_one_objective P b) ∙ expansion P gram 1 a b
        ∙ (λ d. pos (1 * 1) *ℤ objective P a +ℤ (quadratic_move d +ℤ pos 2 *ℤ pos 1 *ℤ weighed (gradient P a) d))
        ∙ solve (objective P a ∷ (pos (s * s) *ℤ curvature P i j) ∷ pos s ∷ gradient P a i ∷ gradient P a j ∷ [])
        (con (pos 1) ⊗ x₀ ⊕ (x₁ ⊕ con (pos 2) ⊗ con (pos 1) ⊗ (⊝ x₂ ⊗ x₃ ⊕ x₂ ⊗ x₄))) (x₀ ⊕ (x₁ ⊖ con (pos 2) ⊗ x₂ ⊗ (x₃ ⊖ x₄))) refl
