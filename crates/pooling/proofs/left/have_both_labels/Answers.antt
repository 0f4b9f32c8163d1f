-- `pooling::left::have_both_labels` meets its contract: so many are looked up of so many. Assumes nothing.
use Rattle.std.proofs.Common.{◌≡◌, ◌+◌, ◌∙◌, ap₂, sym, length, arith, ℕ}
use Rattle.training_file.specs.declared.item.Label.TheVariants.{LookedUp}
use Rattle.training_file.specs.Item.{labelled}
use Rattle.training_file.proofs.Laws.Item.{labels_sum}
use Rattle.last_items.specs.declared.records.Records.{Records}
use Rattle.last_items.specs.Records.{items_of}
use Rattle.pooling.specs.Left.{both_left}
use Rattle.pooling.proofs.Laws.Left.{both_counted, labelled-append, none_told, some_told}
use Rattle.pooling.proofs.left.have_both_labels.Goals as goal

module _ (older newer : Records) where
  count_is : length older.numbers.now + length newer.numbers.now ≡ length (both_left older newer)
  count_is = sym (both_counted older.file.now older.numbers.now newer.file.now newer.numbers.now)

  looked_up_is : {m n : ℕ} → m ≡ labelled LookedUp (items_of older) → n ≡ labelled LookedUp (items_of newer) → m + n ≡ labelled LookedUp (both_left older newer)
  looked_up_is a b = ap₂ (λ x y. x + y) a b ∙ sym (labelled-append LookedUp (items_of older) (items_of newer))

pub overflow_add-looked_up : goal.overflow_add-looked_up
overflow_add-looked_up c =
    let older = c.args.older.now in
    let newer = c.args.newer.now in
    omega (arith, looked_up_is older newer c.count_looked_up.ensures c.count_looked_up-2.ensures, labels_sum (both_left older newer), count_is older newer, older.few, newer.few)

pub returns-then-looked_up-gt0 : goal.returns-then-looked_up-gt0
returns-then-looked_up-gt0 c =
    let older = c.args.older.now in
    let newer = c.args.newer.now in
    some_told (both_left older newer) _ _ (looked_up_is older newer c.count_looked_up.ensures c.count_looked_up-2.ensures) (count_is older newer) c.if-looked_up-gt0.true

pub returns-else-looked_up-gt0 : goal.returns-else-looked_up-gt0
returns-else-looked_up-gt0 c =
    let older = c.args.older.now in
    let newer = c.args.newer.now in
    none_told (both_left older newer) _ _ (looked_up_is older newer c.count_looked_up.ensures c.count_looked_up-2.ensures) (count_is older newer) c.if-looked_up-gt0.false
