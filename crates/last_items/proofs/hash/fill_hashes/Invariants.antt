-- The loop of `last_items::hash::fill_hashes`: each place passed holds its record's hash. Assumes nothing.
use Rattle.std.proofs.Common.{◌≡◌, take}
use Rattle.last_items.specs.Kept.{hashes_at}
use Rattle.last_items.proofs.hash.fill_hashes.Given as goal

abbrev pub invariant-loop-k : goal.invariant-loop-k
invariant-loop-k l = take l.k l.table ≡ hashes_at l.records.file.now (take l.k l.records.numbers.now)
