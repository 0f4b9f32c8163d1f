-- `last_items::hash::hash` meets its contract: the part has sixteen bytes. Assumes nothing.
use mathlib.Core.Path.{◌∙◌, ap}
use native.Mathlib.Omega.{arith}
use lib.ListN.{length}
use Rattle.training_file.proofs.Laws.Record.{bytes_sixteen}
use Rattle.last_items.proofs.hash.hash.Goals as goal

pub u32_at-requires-4 : goal.u32_at-requires-4
u32_at-requires-4 c = omega (arith, ap length c.feature_part-part.ensures ∙ bytes_sixteen _ _ c.args.«record».stored)
