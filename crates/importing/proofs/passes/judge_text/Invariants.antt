-- `importing::passes::judge_text` meets its contract. The loop's invariant: what is counted is that of the lines so far. Assumes nothing.
use Prim.Native.Nat.{◌-◌}
use lib.ListN.{length}
use Rattle.importing.proofs.Laws.Passes.{JudgedTo}
use Rattle.importing.proofs.passes.judge_text.Given as goal

abbrev pub invariant-loop-at : goal.invariant-loop-at
invariant-loop-at l = JudgedTo l.used l.text l.wide l.lines l.looked_up l.at

abbrev pub decreases-loop-at : goal.decreases-loop-at
decreases-loop-at l = length l.text - l.at
