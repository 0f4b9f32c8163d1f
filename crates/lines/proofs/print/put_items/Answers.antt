-- `lines::print::put_items` meets its contract. Assumes nothing.
use Rattle.std.proofs.Common.{◌≡◌, sym, ◌∙◌, ap, List, ℕ, suc, ◌<◌, arith, add-one, length, length-append}
use Rattle.buffer.specs.declared.put.Cursor.{Cursor}
use Rattle.buffer.specs.Put.{Put, Room}
use Rattle.buffer.proofs.Laws.Put.{put_as, put_none, put_then, room_as, room_then}
use Rattle.totals.specs.Totals.{both, count_above_zero, sum_over, totals as totals_below, totals_of_line}
use Rattle.totals.proofs.Laws.Totals.{next_fits, totals_next}
use Rattle.lines.specs.Lines.{item_line, items_with_total, joined, shown_in, total_line}
use Rattle.lines.proofs.Laws.Lines.{joined_rises}
use Rattle.lines.proofs.print.put_items.Invariants.{lines_below}
use Rattle.lines.proofs.print.put_items.Goals as goal

-- there is room for a line after the lines before it
line_room : (file multipliers : List ℕ) {count i : ℕ} {before after : Cursor} → i < count → Room (items_with_total count (shown_in file multipliers)) before
    → Put (lines_below file multipliers i) before after → Room (item_line (shown_in file multipliers i)) after
unfolding joined
line_room file multipliers {count} {i} below room p =
    room_then p
    (record {
      fits = omega (arith, room.fits, joined_rises (suc i) count (λ k. item_line (shown_in file multipliers k)) below, length-append (lines_below file multipliers count) (total_line (totals_below count (shown_in file multipliers))));
    })

pub loop-place-init : goal.loop-place-init
unfolding joined count_above_zero sum_over
loop-place-init c =
    let zeros = c.default-totals.ensures in
    record { added = λ k. record { count = zeros.0 k; plus = zeros.1.0 k; minus = zeros.1.1 k }; left = put_none _ }

pub put_item-requires : goal.put_item-requires
put_item-requires c =
    room_as (ap item_line (sym c.shown-line.ensures)) (line_room c.args.problem.now.file.now c.args.multipliers.now (omega arith) c.requires.1 c.loop-place.invariant.left)

pub add_assign-requires : goal.add_assign-requires
add_assign-requires c =
    let line = shown_in c.args.problem.now.file.now c.args.multipliers.now in
    rw (c.loop-place.invariant.added, c.from.ensures, c.shown-line.ensures)
    (next_fits c.loop-place.place line (omega (arith, c.args.problem.now.listed.few)) (λ i. omega (arith, c.type_inv.multipliers i)))

pub loop-place-preserved : goal.loop-place-preserved
unfolding joined
loop-place-preserved c =
    let line = shown_in c.args.problem.now.file.now c.args.multipliers.now in
    rw add-one
    (record {
      added =
          c.add_assign.ensures.after ∙ (λ k. both (c.loop-place.invariant.added k) ((c.from.ensures ∙ ap totals_of_line c.shown-line.ensures) k))
          ∙ totals_next c.loop-place.place line;
      left = put_then c.loop-place.invariant.left (put_as (ap item_line c.shown-line.ensures) c.put_item.ensures);
    })

-- ---- after the loop all lines are put, and the totals are theirs
pub put_total-requires : goal.put_total-requires
put_total-requires c =
    let f = c.args.problem.now.file.now in
    let a = c.args.multipliers.now in
    let all : c.loop-place.place ≡ length c.args.problem.now.order.now = omega arith in
    room_as (ap total_line (sym (c.loop-place.invariant.added ∙ ap (λ n. totals_below n (shown_in f a)) all)))
    (room_then (put_as (ap (lines_below f a) all) c.loop-place.invariant.left) c.requires.1)

pub returns : goal.returns
returns c =
    let f = c.args.problem.now.file.now in
    let a = c.args.multipliers.now in
    let all : c.loop-place.place ≡ length c.args.problem.now.order.now = omega arith in
    put_then (put_as (ap (lines_below f a) all) c.loop-place.invariant.left)
    (put_as (ap total_line (c.loop-place.invariant.added ∙ ap (λ n. totals_below n (shown_in f a)) all)) c.put_total.ensures)
