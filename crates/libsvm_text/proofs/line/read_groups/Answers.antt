-- `libsvm_text::line::read_groups` meets its contract. Assumes nothing.
use borrow.Author.Rules.{rules}
use mir.Syntax.{w8}
use Rattle.integers.proofs.Laws.Bounds.{reads_element}
use Rattle.libsvm_text.proofs.Laws.Reading.{so_far_more, so_far_none, so_far_wide, so_far_wrong}
use Rattle.libsvm_text.proofs.line.read_groups.Goals as goal

pub loop-at-init : goal.loop-at-init
loop-at-init c = so_far_none _ _ _ c.args.from.within

pub returns-in_err-found : goal.returns-in_err-found
returns-in_err-found c = rw c.from_residual.ensures (so_far_wrong _ _ _ _ _ _ _ c.loop-at.invariant c.loop-at-test.true c.in_err-found.ensures)

pub loop-at-preserved-in-Some : goal.loop-at-preserved-in-Some
loop-at-preserved-in-Some c =
    so_far_more _ _ _ _ _ _ _ c.loop-at.invariant c.loop-at-test.true c.args.from.ends _ c.in_ok-found.ensures c.args.from.few c.in-Some.is
    (reads_element w8 c.in-Some.feature (search rules))

pub loop-at-preserved : goal.loop-at-preserved
loop-at-preserved c =
    so_far_wide _ _ _ _ _ _ _ c.loop-at.invariant c.loop-at-test.true c.args.from.ends _ c.in_ok-found.ensures c.in-None.is
