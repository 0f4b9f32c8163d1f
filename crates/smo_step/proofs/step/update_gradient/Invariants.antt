-- `smo_step::step::update_gradient` meets its contract. The loop's invariant: the first k places hold the new G, and the later ones the old.
-- Assumes nothing.
use mathlib.Core.Path.{◌≡◌}
use Rattle.integers.specs.Written.{written}
use Rattle.smo_step.specs.Update.{updated}
use Rattle.smo_step.proofs.step.update_gradient.Given as goal

abbrev pub invariant-loop-k : goal.invariant-loop-k
invariant-loop-k l = l.gradient ≡ written l.k (updated l.problem l.x.features l.z.features l.amount l.initial.gradient) l.initial.gradient
