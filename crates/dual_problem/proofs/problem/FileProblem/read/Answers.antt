-- `dual_problem::problem::FileProblem::read` meets its contract: what reading a file comes to is all that the type says. Assumes nothing.
use Rattle.std.proofs.Common.{rules}
use Rattle.dual_problem.proofs.Laws.FileProblem.Read.{read_few, read_listed}
use Rattle.dual_problem.proofs.problem.FileProblem.read.Goals as goal

pub shared_ref_as_front-result : goal.shared_ref_as_front-result
shared_ref_as_front-result c = read_few c.args.file.now c.args.table.now c.order.ensures.answer c.order.ensures.table (search rules) c.in_ok-parameters.was

pub invariant_of-result : goal.invariant_of-result
invariant_of-result c =
    record {
      listed = read_listed c.args.file.now c.args.table.now c.order.ensures.answer c.order.ensures.table (search rules) c.in_ok-parameters.was;
    }
