-- `lookahead_c::train::lookahead_train` meets its contract: the numbers written are those of the training that ended. Assumes nothing.
use Rattle.std.proofs.Common.{◌≡◌, rules, w64}
use mir.Val.{to_z, of_z}
use Rattle.lookahead_c.proofs.Laws.Training.{found_quality}
use Rattle.lookahead_c.proofs.train.lookahead_train.Goals as goal

pub returns-in-Ok-clause-quality : goal.returns-in-Ok-clause-quality
returns-in-Ok-clause-quality c =
    let lower : to_z w64 (of_z w64 c.in-Ok.trained.lower) ≡ c.in-Ok.trained.lower = search rules in
    let upper : to_z w64 (of_z w64 c.in-Ok.trained.upper) ≡ c.in-Ok.trained.upper = search rules in
    rw (lower, upper, c.ending_number.ensures) (found_quality _ c.in-Ok.trained _ _ (rw c.in-Ok.is at c.train.ensures.quality))
