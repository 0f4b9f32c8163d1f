-- The loop of `last_items::kept::keep_hashed`: of the records passed those that stay are at the first places, and the others have not been
-- moved. Assumes nothing.
use Rattle.last_items.specs.Records.{items_of}
use Rattle.last_items.proofs.Laws.Kept.{Keeping}
use Rattle.last_items.proofs.kept.keep_hashed.Given as goal

abbrev pub invariant-loop-k : goal.invariant-loop-k
invariant-loop-k l = Keeping l.file (items_of l.later.records) l.initial.numbers l.numbers l.kept l.k
