-- `written_file::record::feature_bytes` meets its contract. The loop's invariant: each place passed holds its feature's byte. Assumes nothing.
use Rattle.std.proofs.Common.{◌≡◌, ℕ, ◌<◌, length, get_or, pos}
use Rattle.training_file.specs.Layout.{byte_of_signed}
use Rattle.written_file.proofs.record.feature_bytes.Given as goal

abbrev pub invariant-loop-i : goal.invariant-loop-i
invariant-loop-i l = (length l.bytes ≡ 16) × ((k : ℕ) → k < l.i → get_or l.bytes k 0 ≡ byte_of_signed (get_or l.features k (pos 0)))
