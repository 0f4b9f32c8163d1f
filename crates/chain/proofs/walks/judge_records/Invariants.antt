-- `chain::walks::judge_records` meets its contract. The loop's invariant: the record is the one at its place of the order, and
-- what is left to judge gives the answer. Assumes nothing.
use Rattle.std.proofs.Common.{◌≡◌, ◌≤◌, get_or, drop}
use Rattle.chain.specs.Answers.{judge_answer, order_of}
use Rattle.chain.proofs.walks.judge_records.Given as goal

abbrev pub invariant-loop : goal.invariant-loop
invariant-loop l = record {
  same_file : l.walker.file.now ≡ l.file;
  counted : l.walker.met ≡ l.counter;
  at_place : l.walker.number ≡ get_or (order_of l.file) l.counter 0;
  few : l.looked_up ≤ l.counter;
  left : judge_answer l.used l.file 0 (order_of l.file) ≡ judge_answer l.used l.file l.looked_up (drop l.counter (order_of l.file));
}
