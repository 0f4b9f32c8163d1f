-- `training_file::record::Record::features` meets its contract. The loop's invariant: each place passed holds its feature.
-- Assumes nothing.
use Rattle.std.proofs.Common.{◌≡◌, ℕ, ◌<◌, length, get_or, pos}
use Rattle.training_file.specs.Layout.{byte_at, signed_byte}
use Rattle.training_file.proofs.record.Record.features.Given as goal

abbrev pub invariant-loop-i : goal.invariant-loop-i
invariant-loop-i l = (length l.features ≡ 16) × ((k : ℕ) → k < l.i → get_or l.features k (pos 0) ≡ signed_byte (byte_at l.part k))
