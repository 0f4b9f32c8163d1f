-- `libsvm_text::line::read_line` meets its contract. Assumes nothing.
use mathlib.Core.Path.{sym}
use Rattle.libsvm_text.proofs.Laws.Line.{line_endless, line_found, line_groupless, line_unlabelled}
use Rattle.libsvm_text.proofs.line.read_line.Goals as goal

pub returns-in_err-label : goal.returns-in_err-label
returns-in_err-label c =
    rw c.from_residual.ensures
    (line_unlabelled _ _ _ (record { ends = c.args.from.ends; place = c.args.from.within }) (sym c.in_err-label.ensures))

pub returns-in_err-groups : goal.returns-in_err-groups
returns-in_err-groups c =
    rw c.from_residual-in_err-groups.ensures
    (line_groupless _ _ _ (record { ends = c.args.from.ends; place = c.args.from.within }) (sym c.in_ok-label.ensures) c.in_err-groups.ensures)

pub returns-then-text-groups-ne10 : goal.returns-then-text-groups-ne10
returns-then-text-groups-ne10 c =
    line_endless _ _ _ (record { ends = c.args.from.ends; place = c.args.from.within }) (sym c.in_ok-label.ensures) c.in_ok-groups.ensures
    c.if-text-groups-ne10.true

pub returns : goal.returns
returns c =
    line_found _ _ _ (record { ends = c.args.from.ends; place = c.args.from.within }) (sym c.in_ok-label.ensures) c.in_ok-groups.ensures
    c.if-text-groups-ne10.false
