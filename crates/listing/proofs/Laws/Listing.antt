-- Laws of the listing. That its totals add up is in Laws/Sheet.antt. Assumes nothing.
pub mod Sheet
use mathlib.Core.Bool.{true, cond, ◌&&◌}
use mathlib.Core.Path.{◌≡◌, refl, sym, ◌∙◌, ap}
use mathlib.Core.List.{List, ◌++◌}
use Prim.Native.Nat.{ℕ, ◌≤◌, ◌<◌}
use Rattle.std.proofs.Common.{Result, Ok, Err}
use native.Mathlib.Omega.{arith}
use borrow.Author.Tests.{le-leb}
use lib.Dec.{leb}
use lib.IntN.{ℤ}
use lib.ListN.{length, get_or, length-append}
use Rattle.integers.proofs.Laws.Truth.{&&_true}
use Rattle.integers.specs.Written.{written}
use Rattle.integers.proofs.Laws.Written.{written_at}
use Rattle.training_file.specs.declared.parameters.Parameters.{Parameters}
use Rattle.training_file.specs.declared.item.Item.{Item}
use Rattle.training_file.specs.declared.refusal.Refusal.{Refusal}
use Rattle.training_file.specs.declared.refusal.Refusal.TheVariants as refusal
use Rattle.training_file.specs.Parameters.{records_most}
use Rattle.training_file.specs.Item.{item_in}
use Rattle.reading.specs.Reading.{Reading, refused, accepted, reading}
use Rattle.reading.proofs.Laws.Reading.{accepted_is}
use Rattle.reading.specs.Calls.{items_in, order_in}
use Rattle.reading.proofs.Laws.Calls.{file_either}
use Rattle.reading.proofs.Laws.Reading.Accepted.{accepted_ranges, items_counted, items_most, numbers_within}
use Rattle.dual_problem.specs.Problem.{problem, at}
use Rattle.dual_problem.proofs.Laws.Problem.Ceilings.{feasible_most}
use Rattle.smo.specs.declared.run.Trained.{Trained}
use Rattle.smo.specs.Run.{run_from_zeros}
use Rattle.smo.specs.Answers.{trained_of}
use Rattle.training.specs.Train.{TrainingLeft, ended_with, unchanged, train_file, train_items}
use Rattle.training.proofs.Laws.Train.{accepted_sound}
use Rattle.totals.specs.Totals.{totals}
use Rattle.lines.specs.Lines.{item_line, items_with_total, joined, result_line, shown_at, total_line}
use Rattle.lines.proofs.Laws.Lines.{item-length, items_cong, joined_length, refusal-length, result_length, total-length}
use Rattle.listing.specs.Listing.{listing, listing_of}

-- ---- how many items there are
pub items_few : (file : List ℕ) → length (items_in (reading file)) ≤ records_most
items_few file = by (reading file) refl
  where
    by : (r : Reading) → reading file ≡ r → length (items_in r) ≤ records_most
    by (refused why) e = omega arith
    by (accepted p order items) e = items_most file p order items (accepted_is file p order items e)

-- ---- what training answers and leaves prints as the listing, where both lists are long enough
abbrev Prints : List ℕ → List ℤ → Reading → TrainingLeft → Type 0
Prints a g r left = length (items_in r) ≤ length a → length (items_in r) ≤ length g → listing left.answer (order_in r) (items_in r) (at left.multipliers) ≡ listing_of r

pub listing_trained : (file a : List ℕ) (g : List ℤ) → Prints a g (reading file) (train_file file a g)
unfolding listing listing_of
listing_trained file a g = file_either _ _ file (Prints a g) (λ why e h k. refl) (λ p order items e. accepted_prints p order items)
  where
    accepted_prints : (p : Parameters) (order : List ℕ) (items : List Item) → Prints a g (accepted p order items) (train_items p items a g)
    accepted_prints p order items h k =
        let P = problem p items in
        let o = run_from_zeros P p.tolerance p.budget in
        let e : leb (length items) (length a) && leb (length items) (length g) ≡ true = &&_true (le-leb _ _ h) (le-leb _ _ k) in
        (λ t. let left = cond (e t) (ended_with P o a g) (unchanged refusal.ListLength a g) in listing left.answer order items (at left.multipliers))
        ∙ ap (λ lines. result_line (trained_of P o) ++ lines)
        (items_cong (length items) (shown_at order items (at (written (length items) (at o.multipliers) a))) (shown_at order items (at o.multipliers))
        (λ i l. ap (λ multiplier. record { number = get_or order i 0; label = (item_in items i).label; multiplier = multiplier }) (written_at (length items) (at o.multipliers) a 0 h i l)))

-- where both lists are long enough, training refuses what reading refuses
abbrev RefusesAlone : List ℕ → List ℤ → Reading → TrainingLeft → Type 0
RefusesAlone a g r left = length (items_in r) ≤ length a → length (items_in r) ≤ length g → (why : Refusal) → left.answer ≡ Err why → r ≡ refused why

pub training_refused : (file a : List ℕ) (g : List ℤ) → RefusesAlone a g (reading file) (train_file file a g)
training_refused file a g = file_either _ _ file (RefusesAlone a g) (λ why e h k told same. let e : why ≡ told = cc in ap refused e) (λ p order items e. accepted_trains p order items)
  where
    accepted_trains : (p : Parameters) (order : List ℕ) (items : List Item) → RefusesAlone a g (accepted p order items) (train_items p items a g)
    accepted_trains p order items h k why same =
        let P = problem p items in
        let e : leb (length items) (length a) && leb (length items) (length g) ≡ true = &&_true (le-leb _ _ h) (le-leb _ _ k) in
        let ends : ◌≡◌ {A = Result Trained Refusal} (Ok (trained_of P (run_from_zeros P p.tolerance p.budget))) (Err why) =
        sym (ap (λ t. (cond t (ended_with P (run_from_zeros P p.tolerance p.budget) a g) (unchanged refusal.ListLength a g)).answer) e) ∙ same in
        cc

-- ---- no listing is longer than 4,096 bytes
pub listing_fits : (file : List ℕ) → length (listing_of (reading file)) ≤ 4096
unfolding listing listing_of
listing_fits file = by (reading file) refl
  where
    by : (r : Reading) → reading file ≡ r → length (listing_of r) ≤ 4096
    by (refused why) e = omega (arith, refusal-length why)
    by (accepted p order items) e =
        let a = accepted_is file p order items e in
        let P = problem p items in
        let o = run_from_zeros P p.tolerance p.budget in
        let sound = accepted_sound file p order items e in
        let shown = shown_at order items (at o.multipliers) in
        let line : (i : ℕ) → i < length items → length (item_line (shown i)) ≤ 14 =
        λ i l. item-length (shown i)
        (omega (arith, (numbers_within file p order items a i (omega (arith, items_counted file p order items a))).1))
        (omega (arith, feasible_most p (accepted_ranges file p order items a) items (at o.multipliers) sound.bounded.feasible i l)) in
        omega (arith, length-append (result_line (trained_of P o)) (items_with_total (length items) shown), result_length (trained_of P o), length-append (joined (length items) (λ i. item_line (shown i))) (total_line (totals (length items) shown)), joined_length (length items) (λ i. item_line (shown i)) line, items_most file p order items a, total-length (totals (length items) shown))
