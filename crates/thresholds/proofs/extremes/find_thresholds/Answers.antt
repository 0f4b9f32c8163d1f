-- `thresholds::extremes::find_thresholds` meets its contract: the list was filled with G, so that the values of its extremes are the
-- thresholds. Assumes nothing.
use Rattle.std.proofs.Common.{◌≡◌, ℕ, ℤ, pos, ◌<◌, get_or, ap, ◌∙◌, arith}
use Rattle.integers.proofs.Laws.Written.{written_at}
use Rattle.dual_problem.specs.Problem.{gradient, at}
use Rattle.dual_problem.specs.Given.{count_in, problem_in}
use Rattle.thresholds.specs.Extremes.{thresholds_in}
use Rattle.thresholds.proofs.Laws.Extremes.{thresholds_found}
use Rattle.thresholds.proofs.extremes.find_thresholds.Goals as goal

pub returns : goal.returns
returns c =
    let f = c.args.problem.now in
    let P = problem_in f in
    let a = at c.args.multipliers.now in
    -- the list that was filled
    let g : ℕ → ℤ = λ i. get_or c.fill_gradient.new.gradient i (pos 0) in
    let kept : (i : ℕ) → i < P.count → g i ≡ gradient P a i = λ i l. ap (λ x. get_or x i (pos 0)) c.fill_gradient.ensures ∙ written_at (count_in f) (gradient P a) _ (pos 0) f.listed.few i (omega (arith, f.listed.counted)) in
    c.thresholds.ensures ∙ ap thresholds_in c.find_extremes.ensures ∙ thresholds_found P a g kept
