-- Document 02, request (l), over the printed bytes of any file: the sheet of an accepted file adds up, whatever ended its training, and that
-- of a refused one is its one line. Assumes nothing.
use mathlib.Core.Path.{◌≡◌, sym, ◌∙◌, ap, subst}
use mathlib.Core.List.{List, [], ◌∷◌, ◌++◌}
use Prim.Native.Nat.{ℕ}
use native.Mathlib.Omega.{arith}
use lib.ListN.{length}
use Rattle.training_file.specs.declared.item.Item.{Item}
use Rattle.training_file.specs.declared.parameters.Parameters.{Parameters}
use Rattle.training_file.specs.declared.refusal.Refusal.{Refusal}
use Rattle.training_file.specs.Refusal.{number_of, record_of}
use Rattle.reading.specs.Reading.{accepted, reading, refused}
use Rattle.reading.proofs.Laws.Reading.{accepted_is}
use Rattle.reading.proofs.Laws.Reading.Accepted.{accepted_ranges, items_most}
use Rattle.dual_problem.specs.Problem.{problem, at}
use Rattle.dual_problem.proofs.Laws.Problem.Ceilings.{feasible_most}
use Rattle.smo.specs.Run.{run_from_zeros}
use Rattle.smo.specs.Answers.{trained_of}
use Rattle.training.proofs.Laws.Train.{accepted_sound}
use Rattle.text.specs.Parts.{parts}
use Rattle.totals.proofs.Laws.Totals.{sums_equal}
use Rattle.lines.specs.Lines.{field, record_field, refused_text, shown_at}
use Rattle.lines.specs.Sheet.{AddsUp}
use Rattle.lines.proofs.Laws.Sheet.{adds_up, refusal_one_line}
use Rattle.listing.specs.Listing.{listing, listing_of}

-- a refusal prints no total, and nothing else beside its line
pub refused_one_line : (file : List ℕ) (why : Refusal) → reading file ≡ refused why
    → parts 10 (listing_of (reading file)) ≡ (refused_text ++ (field (number_of why) ++ record_field (record_of why))) ∷ [] ∷ []
unfolding listing listing_of
refused_one_line file why e = ap (λ r. parts 10 (listing_of r)) e ∙ refusal_one_line why

-- the total is that of the printed lines, and its two sums are equal: what training leaves is feasible
pub accepted_adds_up : (file : List ℕ) (p : Parameters) (order : List ℕ) (items : List Item) → reading file ≡ accepted p order items → AddsUp (listing_of (reading file))
unfolding listing listing_of
accepted_adds_up file p order items e =
    let a = accepted_is file p order items e in
    let outcome = run_from_zeros (problem p items) p.tolerance p.budget in
    let shown = shown_at order items (at outcome.multipliers) in
    let feasible = (accepted_sound file p order items e).bounded.feasible in
    subst (λ r. AddsUp (listing_of r)) (sym e)
    (adds_up (trained_of (problem p items) outcome) (length items) shown (items_most file p order items a)
    (λ i l. omega (arith, feasible_most p (accepted_ranges file p order items a) items (at outcome.multipliers) feasible i l)) (sums_equal (length items) shown feasible.balanced))
