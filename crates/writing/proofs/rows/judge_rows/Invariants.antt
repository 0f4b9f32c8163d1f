-- `writing::rows::judge_rows` meets its contract. The loop's invariant: what is left to judge gives the answer. Assumes nothing.
use mathlib.Core.Path.{◌≡◌}
use Prim.Native.Nat.{◌≤◌}
use lib.ListN.{drop}
use Rattle.writing.specs.Row.{rows_answer}
use Rattle.writing.proofs.Laws.Row.{judge_from}
use Rattle.writing.proofs.rows.judge_rows.Given as goal

abbrev pub invariant-loop-row : goal.invariant-loop-row
invariant-loop-row l = (l.looked_up ≤ l.row-index) × (rows_answer l.used l.rows ≡ judge_from l.used l.looked_up (drop l.row-index l.rows))
