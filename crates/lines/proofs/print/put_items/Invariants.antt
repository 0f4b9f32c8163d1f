-- `lines::print::put_items` meets its contract. The loop's invariant: the lines of the items before the place are put, and their totals are
-- held. Assumes nothing.
use Rattle.std.proofs.Common.{◌≡◌, ℕ, List}
use Rattle.buffer.specs.declared.put.Cursor.{Cursor}
use Rattle.buffer.specs.Put.{Put}
use Rattle.totals.specs.declared.sums.Totals.{Totals}
use Rattle.totals.specs.Totals.{totals as totals_below}
use Rattle.lines.specs.Lines.{item_line, joined, shown_in}
use Rattle.lines.proofs.print.put_items.Given as goal

-- the lines of the places below n
abbrev pub lines_below : List ℕ → List ℕ → ℕ → List ℕ
lines_below file multipliers n = joined n (λ i. item_line (shown_in file multipliers i))

pub record PutBelow (file multipliers : List ℕ) (n : ℕ) (totals : Totals) (before after : Cursor) : Type 0 where
  pub added : totals ≡ totals_below n (shown_in file multipliers)
  pub left : Put (lines_below file multipliers n) before after

abbrev pub invariant-loop-place : goal.invariant-loop-place
invariant-loop-place l = PutBelow l.problem.file.now l.multipliers l.place l.totals l.initial.out l.out
