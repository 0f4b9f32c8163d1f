-- `pooling::left::put_items` meets its contract. The loop's invariant: the records of the items passed are put. Assumes nothing.
use Rattle.std.proofs.Common.{take}
use Rattle.buffer.specs.Put.{Put}
use Rattle.last_items.specs.Kept.{items_at}
use Rattle.pooling.specs.Left.{records_from}
use Rattle.pooling.proofs.left.put_items.Given as goal

abbrev pub invariant-loop-k : goal.invariant-loop-k
invariant-loop-k l = Put (records_from l.records l.before (items_at l.left.file.now (take l.k l.left.numbers.now))) l.initial.out l.out
