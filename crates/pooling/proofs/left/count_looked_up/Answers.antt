-- `pooling::left::count_looked_up` meets its contract. Assumes nothing.
use Rattle.std.proofs.Common.{ℕ, Bool, ap, ◌≡◌, ◌∙◌, sym, rules, tests}
use Rattle.std.proofs.lemmas.Iterator.{YieldsList-from_slice}
use Rattle.std.proofs.lemmas.Iterator.Adapters.{serves_from_places}
use Rattle.std.proofs.lemmas.Iterator.Consumers.{YieldsList-from_filter, count_from_yields_List}
use Rattle.training_file.specs.Record.{Stored, label_at}
use Rattle.last_items.proofs.Laws.Kept.{stored_item}
use Rattle.pooling.proofs.Laws.Left.{counted, looked_up}
use Rattle.pooling.proofs.left.count_looked_up.Goals as goal

pub count-requires-clause-can : goal.count-requires-clause-can
count-requires-clause-can c =
    let r = c.args.records.now in
    let file_is : r.file.now ≡ c.filter.result.p.0.now = sym (ap (λ p. p.0.now) c.filter.ensures.closure) in (
      tt,
      tt,
      serves_from_places (YieldsList-from_slice r.numbers.now cc) (λ x q k. search rules)
          (λ x k h e y at.
          let here : Stored c.filter.result.p.0.now y.now.now = rw (at, ← file_is) (stored_item _ r.numbers.now r.stored h e) in search rules),
    )

pub returns : goal.returns
returns c =
    let r = c.args.records.now in
    let test : ℕ → Bool = λ k. looked_up (label_at r.file.now k) in
    count_from_yields_List c.filter.result _ c.count.ensures.ran
    (YieldsList-from_filter _ test (YieldsList-from_slice r.numbers.now cc) c.filter.ensures.closure (λ x b q k. search (rules, tests)))
    ∙ counted _ _
