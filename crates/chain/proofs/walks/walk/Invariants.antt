-- `chain::walks::walk` meets its contract. The loop's invariant: the walk stands after the records met, which have their marks. The measure
-- is how many more it may meet. Assumes nothing.
use Rattle.std.proofs.Common.{◌≡◌, ◌-◌}
use Rattle.training_file.specs.Layout.{records_stored}
use Rattle.chain.proofs.Laws.Answers.{Passed}
use Rattle.chain.proofs.walks.walk.Given as goal

abbrev pub invariant-loop-count : goal.invariant-loop-count
invariant-loop-count l = record {
  same_file : l.walker.file.now ≡ l.file;
  passed : Passed l.file l.marks l.last l.walker.number l.walker.met;
}

abbrev pub decreases-loop-count : goal.decreases-loop-count
decreases-loop-count l = records_stored l.file - l.walker.met
