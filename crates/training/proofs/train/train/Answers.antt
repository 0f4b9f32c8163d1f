-- `training::train::train` meets its contract: the quality of what it leaves is that of the definition. Assumes nothing.
use mathlib.Core.List.{List}
use mathlib.Core.Path.{◌≡◌, sym, subst}
use Prim.Native.Nat.{ℕ}
use lib.IntN.{ℤ}
use Rattle.std.proofs.Common.{Ok, rules}
use Rattle.reading.specs.Reading.{reading}
use Rattle.training.specs.Train.{TrainingLeft, TrainingQuality, train_file}
use Rattle.training.proofs.Laws.Train.{training_quality}
use Rattle.dual_problem.proofs.Laws.FileProblem.Read.{read_as_ranges}
use Rattle.training.proofs.train.train.Goals as goal

-- the second clause, where the definition gives this answer and these lists
quality : (file a : List ℕ) (g : List ℤ) {left : TrainingLeft} → left ≡ train_file file a g → TrainingQuality (reading file) left.answer left.multipliers
quality file a g e = subst (λ (x : TrainingLeft). TrainingQuality (reading file) x.answer x.multipliers) (sym e) (training_quality file a g)

pub train_read-requires : goal.train_read-requires
train_read-requires c = (read_as_ranges c.args.file.now _ _ c.read.ensures c.in_ok-problem.was, search rules, search rules)

pub returns-clause-quality : goal.returns-clause-quality
returns-clause-quality c =
    let r = c.train_read in
    quality c.args.file.now c.args.multipliers.now c.args.gradient.now {left = record { answer = Ok r.result; multipliers = r.new.multipliers; gradient = r.new.gradient }} (search rules)
