-- Laws of classifying: K of an item and the word either way round, the word as an item, the size of a score, what each class means, the
-- answer by the stage that gives it, and the answer by multipliers that are all 0. Assumes nothing.
use mathlib.Core.Path.{◌≡◌, refl, sym, ◌∙◌, ap, subst}
use mathlib.Core.Logic.{◌↔◌}
use mathlib.Core.Bool.{Bool, true, false, cond, ◌&&◌, and-true}
use mathlib.Core.List.{List, [], ◌∷◌}
use Rattle.std.specs.Prelude.{Result, Ok, Err}
use Prim.Native.Nat.{ℕ, zero, suc, ◌+◌, ◌-◌, ◌*◌, ◌≤◌, ◌<◌}
use native.Mathlib.Omega.{arith}
use lib.Dec.{eqb}
use lib.IntN.{ℤ, pos, negsuc, nat_abs, ◌+ℤ◌, ◌-ℤ◌, ◌*ℤ◌}
use lib.ListN.{length, get_or, get_or-eq_default}
use Rattle.integers.specs.Zero.{is_zero}
use Rattle.integers.specs.Places.{all}
use Rattle.integers.proofs.Laws.Truth.{chose_either}
use Rattle.integers.proofs.Laws.Solver.{con, ⊝◌, ◌⊕◌, ◌⊗◌, ◌⊖◌, x₀, solve}
use Rattle.integers.proofs.Laws.Linear.{integer}
use Rattle.integers.proofs.Laws.Bounds.{+ℤ_bound, -ℤ-bound, *ℤ_bound}
use Rattle.integers.proofs.Laws.Places.{all_first, all_true}
use Rattle.training_file.specs.declared.parameters.Parameters.{Parameters}
use Rattle.training_file.specs.declared.item.Item.{Item}
use Rattle.training_file.specs.declared.refusal.Refusal.{Refusal}
use Rattle.training_file.specs.declared.refusal.Refusal.TheVariants as refusal
use Rattle.training_file.specs.Layout.{feature_count}
use Rattle.training_file.specs.Item.{feature_allowed, features_allowed, item_allowed, label_allowed, zero_past, item_in}
use Rattle.reading.proofs.Laws.Calls.{file_either}
use Rattle.dual_problem.specs.Kernel.{kernel_between}
use Rattle.dual_problem.proofs.Laws.Kernel.{kernel_value_comm, kernel_value_cong}
use Rattle.dual_problem.specs.Problem.{LabelsPresent, problem, at}
use Rattle.dual_problem.proofs.Laws.Problem.Zeros.{b_low_zeros, b_up_zeros, zeros_weighed}
use Rattle.dual_problem.specs.FileProblem.{weighed_sum}
use Rattle.dual_problem.specs.Size.{gradient_most, score_most, weighed_most}
use Rattle.dual_problem.proofs.Laws.FileProblem.Read.{labels_present}
use Rattle.thresholds.specs.declared.extremes.Thresholds.{Thresholds}
use Rattle.certifying.specs.Multipliers.{balance, judgement, within_ceilings}
use Rattle.certifying.proofs.Laws.Multipliers.{verdict}
use Rattle.classifying.specs.declared.classify.Class.{Class}
use Rattle.classifying.specs.declared.classify.Class.TheVariants.{LookedUp, PassedOver, Undecided}
use Rattle.classifying.specs.Classify.{ClassMeans, UndecidedUnlessRefused, SameFeatures, class_of, classify_items, classify_judged, classifying, score, score_with, word_allowed, word_kernel}

-- ---- the kernel
-- K of an item and the word, either way round
pub word_kernel_is : (p : Parameters) (items : List Item) (word : List ℤ) (i : ℕ) → kernel_between p word (item_in items i).features ≡ word_kernel p items word i
word_kernel_is p items word i = kernel_value_comm p.kernel p.used word (item_in items i).features

-- ---- sixteen features that are the word's, past its end 0
module _ (features word : List ℤ) (same : SameFeatures features word) where
  -- with a label that is allowed, they are an item exactly where the word is allowed
  pub word_allowed_lem : (byte : ℕ) → label_allowed byte ≡ true → length word ≤ feature_count → item_allowed (length word) byte features ≡ word_allowed word
  unfolding features_allowed
  word_allowed_lem byte label short =
      (λ k. label k && (all feature_count (λ i. feature_allowed (same i k)) && zeros k))
      ∙ and-true (all feature_count in_range)
      ∙ ap (λ n. all n in_range) (omega arith)
      ∙ all_first in_range (length word) (feature_count - length word) (λ i h. ap feature_allowed (past i h))
    where
      in_range : ℕ → Bool
      in_range i = feature_allowed (get_or word i (pos 0))

      past : (i : ℕ) → length word ≤ i → get_or word i (pos 0) ≡ pos 0
      past i h = get_or-eq_default word (pos 0) {n = i} h

      zeros : zero_past (length word) features ≡ true
      zeros =
          all_true (λ i. is_zero (get_or features (length word + i) (pos 0))) (feature_count - length word)
          (λ i l. ap is_zero (same (length word + i) ∙ past (length word + i) (omega arith)))

  -- they give the word's score
  pub score_same : (p : Parameters) (items : List Item) (a : ℕ → ℕ) (thresholds : Thresholds) → score_with p items a thresholds features ≡ score_with p items a thresholds word
  unfolding score_with
  score_same p items a thresholds = λ k. pos 2 *ℤ weighed_sum (problem p items) a (λ i. kernel i k) -ℤ (thresholds.lower +ℤ thresholds.upper)
    where
      kernel : (i : ℕ) → word_kernel p items features i ≡ word_kernel p items word i
      kernel i =
          sym (word_kernel_is p items features i) ∙ kernel_value_cong p.kernel p.used features word (item_in items i).features same ∙ word_kernel_is p items word i

-- ---- how large a doubled score and its parts are, by the sum over the items and the thresholds
module _ (p : Parameters) (items : List Item) (a : ℕ → ℕ) (thresholds : Thresholds) (word : List ℤ) where
  abbrev whole : ℤ
  whole = weighed_sum (problem p items) a (word_kernel p items word)

  pub score_size : nat_abs whole ≤ weighed_most → nat_abs thresholds.lower ≤ gradient_most → nat_abs thresholds.upper ≤ gradient_most
      → (nat_abs (pos 2 *ℤ whole) ≤ 2 * weighed_most)
      × (nat_abs (thresholds.lower +ℤ thresholds.upper) ≤ gradient_most + gradient_most)
      × (nat_abs (score_with p items a thresholds word) ≤ score_most)
  unfolding score_with
  score_size h l u =
      let twice = *ℤ_bound (pos 2) whole {A = 2} (omega arith) h in
      let both = +ℤ_bound thresholds.lower thresholds.upper l u in
      (twice, both, -ℤ-bound (pos 2 *ℤ whole) (thresholds.lower +ℤ thresholds.upper) twice both)

-- ---- the class of a score
class_means : (value : ℤ) → ClassMeans (class_of value) value
class_means (pos (suc n)) = omega (arith, integer)
class_means (pos zero) = refl
class_means (negsuc n) = omega (arith, integer)

means_class : (class : Class) (value : ℤ) → ClassMeans class value → class_of value ≡ class
means_class LookedUp (pos (suc n)) h = refl
means_class LookedUp (pos zero) h = absurd (omega (arith, integer))
means_class LookedUp (negsuc n) h = absurd (omega (arith, integer))
means_class PassedOver (pos n) h = absurd (omega (arith, integer))
means_class PassedOver (negsuc n) h = refl
means_class Undecided value h = ap class_of h

-- a score has a class exactly where it is as the class means
pub class_exactly : (class : Class) (value : ℤ) → (class_of value ≡ class) ↔ ClassMeans class value
class_exactly class value = (λ e. subst (λ k. ClassMeans k value) e (class_means value), means_class class value)

-- ---- the answer, by the stage that gives it
module _ (p : Parameters) (items : List Item) (a : List ℕ) (word : List ℤ) where
  abbrev pub class : Result Class Refusal
  class = Ok (class_of (score p items (at a) word))

  -- the numbers 6 to 9 are met in this order
  pub refusals_in_order : classify_items p items a word
      ≡ cond (eqb (length a) (length items) && eqb (length word) p.used)
      (cond (within_ceilings (length items) (problem p items) (at a))
      (cond (is_zero (balance (problem p items) (at a)))
      (cond (word_allowed word) class (Err refusal.WordFeature))
      (Err refusal.Balance))
      (Err refusal.Multiplier))
      (Err refusal.ListLength)
  refusals_in_order =
      by (eqb (length a) (length items)) (eqb (length word) p.used) (within_ceilings (length items) (problem p items) (at a)) (is_zero (balance (problem p items) (at a)))
    where
      by : (s d t u : Bool) → cond d (classify_judged p items a word (verdict s t u)) (Err refusal.ListLength)
          ≡ cond (s && d) (cond t (cond u (cond (word_allowed word) class (Err refusal.WordFeature)) (Err refusal.Balance)) (Err refusal.Multiplier)) (Err refusal.ListLength)
      by true true true true = refl
      by true true true false = refl
      by true true false u = refl
      by true false t u = refl
      by false true t u = refl
      by false false t u = refl

-- ---- multipliers that are all 0, as a training of no step leaves them
zeros_score : (p : Parameters) (items : List Item) (a : ℕ → ℕ) → ((i : ℕ) → i < length items → a i ≡ 0) → LabelsPresent (problem p items) → (word : List ℤ)
    → score p items a word ≡ pos 0
unfolding score_with
zeros_score p items a zeros present word =
    let P = problem p items in
    (λ i. pos 2 *ℤ zeros_weighed P a zeros (word_kernel p items word) i -ℤ (b_low_zeros P a zeros present i +ℤ b_up_zeros P a zeros present i))
    ∙ solve (pos p.grid ∷ []) (con (pos 2) ⊗ con (pos 0) ⊖ (x₀ ⊕ ⊝ x₀)) (con (pos 0)) refl

-- with such multipliers a word that isn't refused is undecided
pub zeros_undecided : (file a : List ℕ) (word : List ℤ) → ((i : ℕ) → at a i ≡ 0) → UndecidedUnlessRefused (classifying file a word)
zeros_undecided file a word zeros =
    file_either _ _ file (λ r answer. UndecidedUnlessRefused answer) (λ why e. tt)
    (λ p order items e. chose_either UndecidedUnlessRefused (eqb (length word) p.used) (by p items (labels_present file p order items e) (judgement (problem p items) a)) tt)
  where
    by : (p : Parameters) (items : List Item) → LabelsPresent (problem p items) → (j : Result Unit Refusal) → UndecidedUnlessRefused (classify_judged p items a word j)
    by p items present (Err why) = tt
    by p items present (Ok feasible) =
        chose_either UndecidedUnlessRefused (word_allowed word) (ap class_of (zeros_score p items (at a) (λ i l. zeros i) present word)) tt
