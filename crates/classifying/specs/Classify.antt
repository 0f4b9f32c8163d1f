-- Classifying a word by a training file and multipliers (document 01, "The step", its last paragraph, and refusals 6 to 9; document 02, (e),
-- for a score of 0). Assumes nothing.
use Rattle.std.specs.Prelude.{◌≡◌, Bool, cond, List, ℕ, zero, suc, ◌≤◌, eqb, ℤ, pos, negsuc, nat_abs, ◌+ℤ◌, ◌-ℤ◌, ◌*ℤ◌, length, get_or, ◌<ℤ◌, Result, Ok, Err}
use Rattle.integers.specs.Places.{all}
use Rattle.training_file.specs.declared.parameters.Parameters.{Parameters}
use Rattle.training_file.specs.declared.item.Item.{Item}
use Rattle.training_file.specs.declared.refusal.Refusal.{Refusal}
use Rattle.training_file.specs.declared.refusal.Refusal.TheVariants as refusal
use Rattle.training_file.specs.Item.{feature_allowed, item_in}
use Rattle.reading.specs.Calls.{file_first}
use Rattle.reading.specs.Reading.{reading}
use Rattle.dual_problem.specs.Size.{gradient_most}
use Rattle.dual_problem.specs.Kernel.{kernel_between}
use Rattle.dual_problem.specs.Problem.{problem, at}
use Rattle.dual_problem.specs.declared.problem.FileProblem.{FileProblem}
use Rattle.dual_problem.specs.FileProblem.{weighed_sum}
use Rattle.dual_problem.specs.Given.{MultipliersFit}
use Rattle.thresholds.specs.declared.extremes.Thresholds.{Thresholds}
use Rattle.thresholds.specs.Extremes.{thresholds_of}
use Rattle.certifying.specs.Multipliers.{judgement}
use Rattle.classifying.specs.declared.classify.Class.{Class}
use Rattle.classifying.specs.declared.classify.Class.TheVariants.{LookedUp, PassedOver, Undecided}

-- "K of item i and the word"
abbrev pub word_kernel : Parameters → List Item → List ℤ → ℕ → ℤ
word_kernel p items word i = kernel_between p (item_in items i).features word

-- "Classifying works out 2 × (sum of a_i × y_i × K of item i and the word) − (b_low + b_up).": doubled, so that halfway between the
-- thresholds needs no fraction
unfoldable pub score_with : Parameters → List Item → (ℕ → ℕ) → Thresholds → List ℤ → ℤ
score_with p items a thresholds word = pos 2 *ℤ weighed_sum (problem p items) a (word_kernel p items word) -ℤ (thresholds.lower +ℤ thresholds.upper)

-- "Both thresholds are those of the multipliers given, worked out in the call."
abbrev pub score : Parameters → List Item → (ℕ → ℕ) → List ℤ → ℤ
score p items a word = score_with p items a (thresholds_of (problem p items) a) word

-- the class of a score, by its three cases
abbrev pub class_of : ℤ → Class
class_of (pos (suc n)) = LookedUp  -- "Above 0 the answer is looked up"
class_of (pos zero) = Undecided  -- "undecided, for a score of exactly 0"
class_of (negsuc n) = PassedOver  -- "otherwise passed over"

-- what a class means, in the order of whole numbers: a score has it exactly then (`class_exactly`)
abbrev pub ClassMeans : Class → ℤ → Type 0
ClassMeans LookedUp value = pos 0 <ℤ value
ClassMeans PassedOver value = value <ℤ pos 0
ClassMeans Undecided value = value ≡ pos 0

-- whether each feature of a word is in the range that an item's are
abbrev pub word_allowed : List ℤ → Bool
word_allowed word = all (length word) (λ i. feature_allowed (get_or word i (pos 0)))

-- judged multipliers: their refusal, or 9 where a feature of the word is outside its range, or the class
abbrev pub classify_judged : Parameters → List Item → List ℕ → List ℤ → Result Unit Refusal → Result Class Refusal
classify_judged p items a word (Err why) = Err why
classify_judged p items a word (Ok feasible) = cond (word_allowed word) (Ok (class_of (score p items (at a) word))) (Err refusal.WordFeature)

-- "6: .. a word without exactly d features". Multipliers not n in number draw the same 6 from the judging, whose first test it is, so
-- the numbers are met in order
abbrev pub classify_items : Parameters → List Item → List ℕ → List ℤ → Result Class Refusal
classify_items p items a word =
    cond (eqb (length word) p.used) (classify_judged p items a word (judgement (problem p items) a)) (Err refusal.ListLength)

-- any file, any multipliers and any word: the refusals of the file come before those of the caller
abbrev pub classifying : List ℕ → List ℕ → List ℤ → Result Class Refusal
classifying file a word = file_first Err (λ p order items. classify_items p items a word) (reading file)

-- a refusal, or undecided: what multipliers that are all 0 give every word (`zeros_undecided`)
abbrev pub UndecidedUnlessRefused : Result Class Refusal → Type 0
UndecidedUnlessRefused (Err why) = Unit {0}
UndecidedUnlessRefused (Ok class) = class ≡ Undecided

-- two lists with the same feature at each place, past their ends 0
abbrev pub SameFeatures : List ℤ → List ℤ → Type 0
SameFeatures xs zs = (q : ℕ) → get_or xs q (pos 0) ≡ get_or zs q (pos 0)

-- what a word's score asks: multipliers that were judged, and thresholds no larger than a G can be
pub record Scorable (f : FileProblem) (a : List ℕ) (thresholds : Thresholds) : Type 0 where
  pub fit : MultipliersFit f a
  pub lower_size : nat_abs thresholds.lower ≤ gradient_most
  pub upper_size : nat_abs thresholds.upper ≤ gradient_most
