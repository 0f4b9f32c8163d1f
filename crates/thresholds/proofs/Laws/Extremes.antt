-- Laws of the places that attain the thresholds: one place more, and the values. Assumes nothing.
use Rattle.std.proofs.Common.{◌≡◌, ℕ, ℤ, ◌<◌, Bool, true, false, cond, Option, Some, MatchOption, IsTrue, refl, sym, ap, subst, ◌∙◌}
use Rattle.std.proofs.Math.Option as place
use Rattle.std.specs.Int.Signed.{lt_z}
use Rattle.integers.specs.Extremum.{argmin, argmax, beside, value_at}
use Rattle.integers.proofs.Laws.Extremum.{lt_z_strict, gt_z_strict, extreme_value_cong}
use Rattle.dual_problem.specs.Problem.{Problem, gradient, up, low, b_up, b_low}
use Rattle.thresholds.specs.declared.extremes.Best.{Best}
use Rattle.thresholds.specs.Extremes.{best_of, best_value, extremes_of, thresholds_in, thresholds_of}

-- whether the value v comes before that of the best place so far, or there is none
abbrev pub Comes : (ℤ → ℤ → Bool) → ℤ → Option Best → Bool → Type 0
Comes before v best comes = MatchOption best (IsTrue comes) (λ b. comes ≡ before v b.value)

-- one place more: taken where it is in the set and comes before the best so far
module _ (before : ℤ → ℤ → Bool) (f : ℕ → ℤ) (found : place.Option ℕ) (n : ℕ) where
  -- in the set
  met : (o : place.Option ℕ) (comes : Bool) → Comes before (f n) (best_of f o) comes → best_of f (beside before f o n true) ≡ cond comes (Some (record { place = n; value = f n })) (best_of f o)
  met place.none comes h = rw h refl
  met (place.some k) comes h = rw h (by (before (f n) (f k)))
    where
      by : (t : Bool) → best_of f (cond t (place.some n) (place.some k)) ≡ cond t (Some (record { place = n; value = f n })) (Some (record { place = k; value = f k }))
      by true = refl
      by false = refl

  module _ {best : Option Best} {v : ℤ} (so_far : best ≡ best_of f found) (value_is : v ≡ f n) where
    met_here : (comes : Bool) → Comes before v best comes → best_of f (beside before f found n true) ≡ cond comes (Some (record { place = n; value = v })) best
    met_here comes h =
        met found comes (subst (λ b. Comes before (f n) b comes) so_far (subst (λ z. Comes before z best comes) value_is h))
        ∙ (λ i. cond comes (Some (record { place = n; value = sym value_is i })) (sym so_far i))

    pub beside_taken : {member : Bool} (comes : Bool) → Comes before v best comes → true ≡ member → comes ≡ true → Some (record { place = n; value = v }) ≡ best_of f (beside before f found n member)
    beside_taken comes h m c = sym (ap (λ t. best_of f (beside before f found n t)) (sym m) ∙ met_here comes h ∙ ap (λ t. cond t (Some (record { place = n; value = v })) best) c)

    pub beside_kept : {member : Bool} (comes : Bool) → Comes before v best comes → true ≡ member → comes ≡ false → best ≡ best_of f (beside before f found n member)
    beside_kept comes h m c = sym (ap (λ t. best_of f (beside before f found n t)) (sym m) ∙ met_here comes h ∙ ap (λ t. cond t (Some (record { place = n; value = v })) best) c)

  -- outside the set
  pub beside_outside : {best : Option Best} {member : Bool} → best ≡ best_of f found → false ≡ member → best ≡ best_of f (beside before f found n member)
  beside_outside so_far m = so_far ∙ ap (λ t. best_of f (beside before f found n t)) m

best_value_lem : (f : ℕ → ℤ) (found : place.Option ℕ) → best_value (best_of f found) ≡ value_at f found
best_value_lem f place.none = refl
best_value_lem f (place.some k) = refl

-- where the list holds G, the values found are the thresholds
module _ (P : Problem) (a : ℕ → ℕ) (g : ℕ → ℤ) (kept : (i : ℕ) → i < P.count → g i ≡ gradient P a i) where
  pub low_value : best_value (extremes_of P a g).low ≡ b_low P a
  low_value = best_value_lem g (argmax P.count (low P a) g) ∙ extreme_value_cong (λ a b. lt_z b a) gt_z_strict P.count (low P a) (low P a) g (gradient P a) (λ i l. refl) kept

  pub up_value : best_value (extremes_of P a g).up ≡ b_up P a
  up_value = best_value_lem g (argmin P.count (up P a) g) ∙ extreme_value_cong lt_z lt_z_strict P.count (up P a) (up P a) g (gradient P a) (λ i l. refl) kept

  pub thresholds_found : thresholds_in (extremes_of P a g) ≡ thresholds_of P a
  thresholds_found = λ k. record { lower = low_value k; upper = up_value k }
