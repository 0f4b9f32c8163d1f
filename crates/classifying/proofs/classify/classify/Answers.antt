-- `classifying::classify::classify` meets its contract. Assumes nothing.
use Rattle.dual_problem.proofs.Laws.FileProblem.Read.{read_as_ranges}
use Rattle.classifying.proofs.classify.classify.Goals as goal

pub classify_read-requires : goal.classify_read-requires
classify_read-requires c = read_as_ranges c.args.file.now _ _ c.read.ensures c.in_ok-problem.was
