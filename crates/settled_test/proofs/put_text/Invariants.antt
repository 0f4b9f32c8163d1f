-- What is put ends within the text. Assumes nothing.
use Rattle.std.proofs.Common.{length, ◌≤◌}
use Rattle.settled_test.proofs.put_text.Given as goal

abbrev pub invariant-loop : goal.invariant-loop
invariant-loop l = l.end ≤ length l.text
