-- `dual_problem::gradient::term` meets its contract. Assumes nothing.
use Rattle.std.proofs.Common.{arith, refl, le_trans, w64}
use Rattle.dual_problem.proofs.Laws.Results.{product_is}
use Rattle.dual_problem.proofs.gradient.term.Goals as goal

pub returns : goal.returns
returns c =
    let p = product_is w64
    (record { value = c.with_sign.ensures.value; size = le_trans c.with_sign.ensures.size c.requires.0 })
    (record { value = refl; size = c.requires.1 })
    (omega arith) (omega arith) (omega arith) in
    record { value = p.value; size = p.size }
