-- `written_file::record::feature_bytes` meets its contract. Assumes nothing.
use Rattle.std.proofs.Common.{sym, ◌∙◌, arith, map, pos}
use lib.ListN.{length-map, get_or-map}
use lib.Seq.{ext_get_or}
use Rattle.training_file.specs.Layout.{byte_of_signed}
use Rattle.written_file.proofs.record.feature_bytes.Goals as goal

pub returns : goal.returns
returns c =
    let features = c.args.features.now in
    ext_get_or 0 c.loop-i.bytes (map byte_of_signed features)
    (simp length-map (omega arith))
    (λ k h. c.loop-i.invariant.1 k (omega arith) ∙ sym (get_or-map byte_of_signed features k (pos 0)))
