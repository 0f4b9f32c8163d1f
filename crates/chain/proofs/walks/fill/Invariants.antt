-- `chain::walks::fill` meets its contract. The loop's invariant: the record is the one at its place of the order, and
-- the table has the order up to that place. Assumes nothing.
use Rattle.std.proofs.Common.{◌≡◌, ◌++◌, length, get_or, take, drop}
use Rattle.chain.specs.Answers.{order_of}
use Rattle.chain.proofs.walks.fill.Given as goal

abbrev pub invariant-loop-place : goal.invariant-loop-place
invariant-loop-place l = record {
  same_file : l.walker.file.now ≡ l.file;
  counted : l.walker.met ≡ l.place;
  at_place : l.walker.number ≡ get_or (order_of l.file) l.place 0;
  same_length : length l.table ≡ length l.initial.table;
  filled : l.table ≡ take l.place (order_of l.file) ++ drop l.place l.initial.table;
}
