-- The loop of `libsvm_text::line::read_groups`: the groups so far are read. Assumes nothing.
use Prim.Native.Nat.{◌-◌}
use lib.ListN.{length}
use Rattle.libsvm_text.proofs.Laws.Reading.{GroupsSoFar}
use Rattle.libsvm_text.proofs.line.read_groups.Given as goal

abbrev pub invariant-loop-at : goal.invariant-loop-at
invariant-loop-at l = GroupsSoFar l.fn.from.used l.fn.from.text.now l.fn.from.at l.features l.wide l.last l.at

abbrev pub decreases-loop-at : goal.decreases-loop-at
decreases-loop-at l = length l.text - l.at
