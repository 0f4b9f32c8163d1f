-- `smo_step::step::take_step` meets its contract: the laws of a step (Laws/Update.antt), with what was fetched and computed put in the place
-- of what it is. Assumes nothing.
use mathlib.Core.Path.{◌≡◌, sym, ◌∙◌, subst, subst₂, subst₃}
use mathlib.Core.List.{List}
use Prim.Native.Nat.{ℕ, ◌≤◌}
use native.Mathlib.Omega.{arith}
use lib.IntN.{ℤ, pos, ◌-ℤ◌}
use lib.ListN.{get_or, set}
use mir.Syntax.{w64}
use mir.Val.{to_z, of_z}
use Rattle.integers.proofs.Laws.Bounds.{fits_width}
use Rattle.integers.specs.Written.{written}
use Rattle.training_file.specs.Parameters.{ceiling_most}
use Rattle.dual_problem.specs.declared.problem.FileProblem.{FileProblem}
use Rattle.dual_problem.specs.Given.{count_in, problem_in}
use Rattle.working_pair.specs.declared.amount.Holding.{Holding}
use Rattle.working_pair.specs.Step.{Candidate, amount, fall, lowered, raised, rise}
use Rattle.working_pair.specs.State.{State}
use Rattle.working_pair.specs.Division.{PairGiven, amount_between, holding_at}
use Rattle.working_pair.proofs.Laws.State.{slope_is, slope_reads, slope_size}
use Rattle.smo_step.specs.Update.{updated, Updatable}
use Rattle.smo_step.proofs.Laws.Update.{i_listed, j_listed, step_pair, step_falls, step_rises, step_updatable, step_amount, step_gradient}
use Rattle.smo_step.proofs.step.take_step.Goals as goal

-- the amount, with the two items that were fetched and g as the machine has it
module _ {f : FileProblem} {a : List ℕ} {g : List ℤ} {i j : ℕ} (s : State f a g) (pair : Candidate (problem_in f) a i j) where
  amount_is : {x z : Holding} {n : ℕ} → x ≡ holding_at f a i → z ≡ holding_at f a j
      → n ≡ amount_between f.parameters x z (to_z w64 (of_z w64 (to_z w64 (of_z w64 (get_or g i (pos 0))) -ℤ to_z w64 (of_z w64 (get_or g j (pos 0))))))
      → n ≡ amount (problem_in f) a i j
  amount_is x_is z_is e =
      e
      ∙ (λ t. amount_between f.parameters (x_is t) (z_is t) (slope_reads s (i_listed s pair) (j_listed s pair) t))
      ∙ step_amount s pair

pub overflow_sub-gradient : goal.overflow_sub-gradient
overflow_sub-gradient c =
    let s = c.requires.0 in
    let i = i_listed s c.requires.2 in
    let j = j_listed s c.requires.2 in
    fits_width w64 (slope_is s i j) (omega (arith, slope_size s i j))

pub pair_amount-amount-requires : goal.pair_amount-amount-requires
pair_amount-amount-requires c =
    let s = c.requires.0 in
    let pair = c.requires.2 in
    subst₃ (PairGiven c.args.problem.now.parameters) (sym c.at-x.ensures) (sym c.at-z.ensures) (sym (slope_reads s (i_listed s pair) (j_listed s pair))) (step_pair s pair)

pub raise-requires : goal.raise-requires
raise-requires c =
    let n = amount_is c.requires.0 c.requires.2 c.at-x.ensures c.at-z.ensures c.pair_amount-amount.ensures in
    rw c.opposite.ensures
    (subst₂ (λ n (x : Holding). n ≤ fall x.item.label x.multiplier ceiling_most) (sym n) (sym c.at-x.ensures) (step_falls c.requires.0 c.requires.2 c.requires.1))

pub raise-requires-2 : goal.raise-requires-2
raise-requires-2 c =
    let n = amount_is c.requires.0 c.requires.2 c.at-x.ensures c.at-z.ensures c.pair_amount-amount.ensures in
    subst₂ (λ n (z : Holding). n ≤ rise z.item.label z.multiplier ceiling_most) (sym n) (sym c.at-z.ensures) (step_rises c.requires.0 c.requires.2 c.requires.1)

pub update_gradient-requires : goal.update_gradient-requires
update_gradient-requires c =
    let n = amount_is c.requires.0 c.requires.2 c.at-x.ensures c.at-z.ensures c.pair_amount-amount.ensures in
    subst (Updatable c.args.problem.now c.args.gradient.now) (sym n) (step_updatable c.requires.0 c.requires.2 c.requires.1)

pub returns-clause-multipliers : goal.returns-clause-multipliers
returns-clause-multipliers c =
    let a = c.args.multipliers.now in
    let i = c.args.i in
    let j = c.args.j in
    let n = amount_is c.requires.0 c.requires.2 c.at-x.ensures c.at-z.ensures c.pair_amount-amount.ensures in
    let lowered_is = c.raise.ensures ∙ (λ t. raised (c.opposite.ensures t) c.at-x.result.multiplier c.pair_amount-amount.result) in
    (λ t. set (set a i (lowered_is t)) j (c.raise-2.ensures t))
    ∙ (λ t. set (set a i (lowered (c.at-x.ensures t).item.label (c.at-x.ensures t).multiplier (n t))) j (raised (c.at-z.ensures t).item.label (c.at-z.ensures t).multiplier (n t)))

pub returns-clause-gradient : goal.returns-clause-gradient
returns-clause-gradient c =
    let g = c.args.gradient.now in
    let n = amount_is c.requires.0 c.requires.2 c.at-x.ensures c.at-z.ensures c.pair_amount-amount.ensures in
    c.update_gradient.ensures
    ∙ (λ t. written (count_in c.args.problem.now) (updated c.args.problem.now (c.at-x.ensures t).item.features (c.at-z.ensures t).item.features (n t) g) g)
    ∙ step_gradient c.requires.0 c.requires.2
