-- `dual_problem::gradient::gradient_at` meets its contract: G is the weighed sum less S times the label's sign. Assumes nothing.
use Rattle.std.proofs.Common.{arith, le_trans, ◌∙◌, ap, w64, pos, ◌*ℤ◌}
use Rattle.dual_problem.specs.FileProblem.{weighed_with}
use Rattle.dual_problem.specs.Problem.{gradient, sign, at}
use Rattle.dual_problem.proofs.Laws.Results.{difference_is}
use Rattle.dual_problem.proofs.gradient.gradient_at.Goals as goal

pub returns : goal.returns
unfolding gradient
returns c =
    let f = c.args.problem.now in
    let d = difference_is w64
    (record { value = c.weighed_sum.ensures.value ∙ ap (λ x. weighed_with f.file.now f.parameters x.features (at c.args.multipliers.now)) c.item-x.ensures; size = c.weighed_sum.ensures.size })
    (record { value = c.with_sign.ensures.value ∙ ap (λ x. pos f.parameters.grid *ℤ sign x.label) c.item-x.ensures; size = le_trans c.with_sign.ensures.size c.requires.0.grid })
    (omega arith) in
    record { value = d.value; size = d.size }
