-- `smo_step::step::update_gradient` meets its contract. The loop's invariant: the first k places hold the new G, and the later ones the old.
-- Assumes nothing.
use mathlib.Core.Path.{◌≡◌, refl, sym, ◌∙◌, ap, subst}
use mathlib.Core.List.{List}
use Prim.Native.Nat.{ℕ, ◌+◌, ◌*◌, ◌≤◌, ◌<◌}
use native.Mathlib.Nat.{le_refl}
use native.Mathlib.Numerals.{add-one}
use native.Mathlib.Omega.{arith}
use lib.IntN.{ℤ, pos, nat_abs}
use lib.ListN.{set, get_or}
use mir.Syntax.{w64}
use mir.Val.{to_z, of_z}
use Rattle.integers.proofs.Laws.Bounds.{reads_back}
use Rattle.integers.specs.Written.{written}
use Rattle.integers.proofs.Laws.Written.{written_past}
use Rattle.training_file.specs.declared.item.Item.{Item}
use Rattle.dual_problem.specs.Size.{gradient_most, kernel_most, term_most}
use Rattle.dual_problem.specs.Kernel.{kernel_between}
use Rattle.dual_problem.specs.declared.problem.FileProblem.{FileProblem}
use Rattle.dual_problem.specs.Given.{count_in}
use Rattle.dual_problem.proofs.Laws.Kernel.{kernel_reads, kernel_sized}
use Rattle.smo_step.specs.Update.{shifted, updated, Updatable}
use Rattle.smo_step.proofs.step.update_gradient.Goals as goal

-- the G that was read at the place k is the old one
value_reads : {f : FileProblem} {before now : List ℤ} {s : ℕ} (h : Updatable f before s) (k : ℕ) (new : ℕ → ℤ) → k < count_in f → now ≡ written k new before
    → to_z w64 (of_z w64 (get_or now k (pos 0))) ≡ get_or before k (pos 0)
value_reads {before = before} h k new l e =
    reads_back w64 (ap (λ g. get_or g k (pos 0)) e ∙ written_past k new before (pos 0) k (le_refl k)) (omega (arith, h.sized k l))

-- a kernel value as it is handed on, with the item that was fetched
kernel_with_item : (f : FileProblem) (xs : List ℤ) {fetched item : Item} {k : ℤ} → fetched ≡ item → k ≡ kernel_between f.parameters xs fetched.features → nat_abs k ≤ kernel_most
    → to_z w64 (of_z w64 k) ≡ kernel_between f.parameters xs item.features
kernel_with_item f xs {k = k} e value size = kernel_reads k size ∙ value ∙ ap (λ x. kernel_between f.parameters xs x.features) e

pub loop-k-init : goal.loop-k-init
unfolding written
loop-k-init c = refl

pub shift-requires : goal.shift-requires
shift-requires c =
    let k = c.loop-k.k in
    let l : k < count_in c.args.problem.now = omega arith in
    let new : ℕ → ℤ = updated c.args.problem.now c.args.x.features c.args.z.features c.args.amount c.args.gradient.now in (
      subst (λ z. nat_abs z ≤ gradient_most) (sym (value_reads c.requires k new l c.loop-k.invariant)) (c.requires.sized k l),
      c.requires.small,
      kernel_sized c.kernel_of_features.result c.kernel_of_features.ensures.size,
      kernel_sized c.kernel_of_features-in-loop-k.result c.kernel_of_features-in-loop-k.ensures.size,
    )

pub loop-k-preserved : goal.loop-k-preserved
unfolding written
loop-k-preserved c =
    let k = c.loop-k.k in
    let f = c.args.problem.now in
    let l : k < count_in f = omega arith in
    let new : ℕ → ℤ = updated f c.args.x.features c.args.z.features c.args.amount c.args.gradient.now in
    let value = value_reads c.requires k new l c.loop-k.invariant in
    let at_z = kernel_with_item f c.args.z.features c.item.ensures c.kernel_of_features.ensures.value c.kernel_of_features.ensures.size in
    let at_x = kernel_with_item f c.args.x.features c.item.ensures c.kernel_of_features-in-loop-k.ensures.value c.kernel_of_features-in-loop-k.ensures.size in
    let shifted_is : c.shift.result ≡ new k = c.shift.ensures.value ∙ (λ i. shifted (value i) c.args.amount (at_z i) (at_x i)) in
    let e = reads_back w64 shifted_is (omega (arith, subst (λ z. nat_abs z ≤ gradient_most + 2 * term_most) shifted_is c.shift.ensures.size)) in
    rw add-one (λ i. set (c.loop-k.invariant i) k (e i))
