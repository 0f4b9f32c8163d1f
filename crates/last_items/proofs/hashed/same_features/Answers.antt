-- `last_items::hashed::same_features` meets its contract: sixteen bytes are compared as two numbers. Assumes nothing.
use Rattle.std.proofs.Common.{◌≡◌, ◌∙◌, sym, ap, ap₂, List, ℕ}
use native.Mathlib.Omega.{arith}
use lib.Dec.{eqb}
use lib.ListN.{length}
use Rattle.training_file.specs.Layout.{le8}
use Rattle.training_file.proofs.Laws.Record.{bytes_sixteen}
use Rattle.last_items.proofs.Laws.Kept.{first_differs, second_decides}
use Rattle.last_items.proofs.hashed.same_features.Goals as goal

-- a number of a part is that of the feature bytes
word : (at : ℕ) {part bytes : List ℕ} {x : ℕ} → part ≡ bytes → x ≡ le8 part at → x ≡ le8 bytes at
word at e is = is ∙ ap (λ (l : List ℕ). le8 l at) e

pub u64_at-requires-then-u64_at : goal.u64_at-requires-then-u64_at
u64_at-requires-then-u64_at c = omega (arith, ap length c.feature_part-xs.ensures ∙ bytes_sixteen _ _ c.requires.0)

pub u64_at-requires-then-u64_at-2 : goal.u64_at-requires-then-u64_at-2
u64_at-requires-then-u64_at-2 c = omega (arith, ap length c.feature_part-zs.ensures ∙ bytes_sixteen _ _ c.requires.1)

pub returns-then-u64_at : goal.returns-then-u64_at
returns-then-u64_at c =
    ap₂ eqb (word 8 c.feature_part-xs.ensures c.u64_at-then-u64_at.ensures) (word 8 c.feature_part-zs.ensures c.u64_at-then-u64_at-2.ensures)
    ∙ second_decides c.args.left.now c.args.right.now (λ i. let small = c.type_inv.left i in omega arith) (λ i. let small = c.type_inv.right i in omega arith)
    c.args.a c.args.b c.requires.0 c.requires.1
    (sym (word 0 c.feature_part-xs.ensures c.u64_at.ensures) ∙ c.if-u64_at.true ∙ word 0 c.feature_part-zs.ensures c.u64_at-2.ensures)

pub returns-else-u64_at : goal.returns-else-u64_at
returns-else-u64_at c =
    let x = word 0 c.feature_part-xs.ensures c.u64_at.ensures in
    let z = word 0 c.feature_part-zs.ensures c.u64_at-2.ensures in
    ap₂ eqb x z
    ∙ first_differs c.args.left.now c.args.right.now (λ i. let small = c.type_inv.left i in omega arith) (λ i. let small = c.type_inv.right i in omega arith)
    c.args.a c.args.b c.requires.0 c.requires.1 (λ e. c.if-u64_at.false (x ∙ e ∙ sym z))
