-- Laws of the lines: texts one after the other, and how long a line can be. Assumes nothing.
use mathlib.Core.Path.{◌≡◌, refl, ap}
use mathlib.Core.List.{List, [], ◌∷◌, ◌++◌}
use mathlib.Core.Logic.{⊎_elim}
use Prim.Native.Nat.{ℕ, zero, suc, ◌*◌, ◌≤◌, ◌<◌}
use native.Mathlib.Nat.{le_refl, le_of_suc-le-suc, eq-or-lt_of_le}
use native.Mathlib.Omega.{arith}
use lib.ListN.{length, length-append}
use Rattle.smo.specs.declared.ending.Ending.{Ending}
use Rattle.smo.specs.declared.ending.Ending.TheVariants.{Converged, Stuck, Spent}
use Rattle.smo.specs.declared.run.Trained.{Trained}
use Rattle.text.specs.Decimal.{decimal}
use Rattle.text.proofs.Laws.Decimal.{decimal_few, decimal-length, signed-length}
use Rattle.totals.specs.declared.sums.Shown.{Shown}
use Rattle.totals.specs.declared.sums.Totals.{Totals}
use Rattle.totals.proofs.Laws.Totals.{totals_cong}
use Rattle.training_file.specs.declared.refusal.Refusal.{Refusal}
use Rattle.training_file.specs.Refusal.{number_of, record_of}
use Rattle.lines.specs.Lines.{ending_text, item_line, items_with_total, joined, label_sign, record_field, refusal_line, result_line, total_line}

-- ---- texts one after the other
joined_cong : (n : ℕ) (f g : ℕ → List ℕ) → ((i : ℕ) → i < n → f i ≡ g i) → joined n f ≡ joined n g
unfolding joined
joined_cong zero f g h = refl
joined_cong (suc n) f g h = λ k. joined_cong n f g (λ i l. h i (omega arith)) k ++ h n (le_refl (suc n)) k

-- lines that show the same are the same, and so is their total
pub items_cong : (n : ℕ) (f g : ℕ → Shown) → ((i : ℕ) → i < n → f i ≡ g i) → items_with_total n f ≡ items_with_total n g
items_cong n f g h = λ k. joined_cong n (λ i. item_line (f i)) (λ i. item_line (g i)) (λ i l. ap item_line (h i l)) k ++ total_line (totals_cong n f g h k)

pub joined_rises : (n m : ℕ) (f : ℕ → List ℕ) → n ≤ m → length (joined n f) ≤ length (joined m f)
unfolding joined
joined_rises n zero f h = let e : n ≡ 0 = omega arith in omega (arith, ap (λ k. length (joined k f)) e)
joined_rises n (suc m) f h =
    ⊎_elim (λ e. omega (arith, ap (λ k. length (joined k f)) e)) (λ l. omega (arith, joined_rises n m f (le_of_suc-le-suc l), length-append (joined m f) (f m)))
    (eq-or-lt_of_le h)

pub joined_length : (n : ℕ) (f : ℕ → List ℕ) {most : ℕ} → ((i : ℕ) → i < n → length (f i) ≤ most) → length (joined n f) ≤ n * most
unfolding joined
joined_length zero f h = omega arith
joined_length (suc n) f {most} h = omega (arith, length-append (joined n f) (f n), joined_length n f (λ i l. h i (omega arith)), h n (le_refl (suc n)))

-- ---- how long a line is at most
pub item-length : (shown : Shown) → shown.number < 100000 → shown.multiplier < 100000 → length (item_line shown) ≤ 14
unfolding item_line
item-length shown h k =
    omega (arith, length-append (decimal shown.number) ((32 ∷ label_sign shown.label ∷ 32 ∷ []) ++ (decimal shown.multiplier ++ (10 ∷ []))), length-append (decimal shown.multiplier) (10 ∷ []), decimal_few shown.number h, decimal_few shown.multiplier k)

ending-length : (ending : Ending) → length (ending_text ending) ≤ 9
ending-length Converged = omega arith
ending-length Stuck = omega arith
ending-length Spent = omega arith

pub result_length : (trained : Trained) → length (result_line trained) ≤ 75
unfolding result_line
result_length trained = simp length-append (omega (arith, ending-length trained.ending, decimal-length trained.steps, signed-length trained.lower, signed-length trained.upper))

pub total-length : (totals : Totals) → length (total_line totals) ≤ 69
unfolding total_line
total-length totals = simp length-append (omega (arith, decimal-length totals.count, decimal-length totals.plus, decimal-length totals.minus))

record_length : (r : ℕ) → length (record_field r) ≤ 21
record_length zero = omega arith
record_length (suc r) = simp length-append (omega (arith, decimal-length (suc r)))

pub refusal-length : (why : Refusal) → length (refusal_line why) ≤ 50
refusal-length why = simp length-append (omega (arith, decimal-length (number_of why), record_length (record_of why)))
