-- `libsvm_text::group::read_group` meets its contract: a number with its colon, and then a value. Assumes nothing.
use Rattle.libsvm_text.proofs.Laws.Group.{group_found, group_valueless}
use Rattle.libsvm_text.proofs.group.read_group.Goals as goal

pub returns-in_err-value : goal.returns-in_err-value
returns-in_err-value c =
    rw c.from_residual-in_err-value.ensures
    (group_valueless c.args.from.used c.args.last c.args.from.text.now c.args.from.at c.in_ok-number.ensures c.in_err-value.ensures)

pub returns : goal.returns
returns c = group_found c.args.from.used c.args.last c.args.from.text.now c.args.from.at c.in_ok-number.ensures c.in_ok-value.ensures
