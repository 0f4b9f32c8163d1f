-- `certifying::certify::certify_read` meets its contract. Assumes nothing.
use Rattle.std.proofs.Common.{sym, ◌∙◌}
use Rattle.certifying.proofs.Laws.Multipliers.{feasible_fit}
use Rattle.certifying.proofs.certify.certify_read.Goals as goal

pub find_thresholds-requires : goal.find_thresholds-requires
find_thresholds-requires c = feasible_fit _ _ c.requires (sym c.judge_multipliers.ensures ∙ c.in_ok-judge_multipliers.was)
