-- `training_file::record::Record::features` meets its contract. Assumes nothing.
use Rattle.std.proofs.Common.{◌≡◌, sym, ap, ◌∙◌, arith, length, map, pos}
use lib.ListN.{length-map, get_or-map}
use lib.Seq.{ext_get_or}
use Rattle.training_file.specs.Layout.{feature_count, signed_byte}
use Rattle.training_file.proofs.Laws.Record.{bytes_sixteen}
use Rattle.training_file.proofs.record.Record.features.Goals as goal

pub returns : goal.returns
returns c =
    let part = c.feature_part-part.result.now in
    let sixteen : length part ≡ feature_count = ap length c.feature_part-part.ensures ∙ bytes_sixteen _ _ c.args.self.stored in
    ext_get_or (pos 0) c.loop-i.features (map signed_byte part)
    (simp length-map (omega arith))
    (λ k h. c.loop-i.invariant.1 k (omega arith) ∙ sym (get_or-map signed_byte part k 0))
    ∙ ap (map signed_byte) c.feature_part-part.ensures
