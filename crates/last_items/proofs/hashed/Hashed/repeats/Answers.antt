-- `last_items::hashed::Hashed::repeats` meets its contract. Assumes nothing.
use Rattle.std.proofs.Common.{ℕ, Bool, ◌∙◌, sym, ap₂, rules, tests}
use Rattle.std.proofs.lemmas.Iterator.{YieldsList-from_slice}
use Rattle.std.proofs.lemmas.Iterator.Adapters.{serves_from_places}
use Rattle.std.proofs.lemmas.Iterator.Search.{any_from_yields_List}
use Rattle.integers.specs.Member.{member}
use native.Mathlib.Omega.{arith}
use Rattle.training_file.specs.Layout.{feature_count}
use Rattle.training_file.specs.Record.{item_at}
use Rattle.last_items.specs.Last.{same_features}
use Rattle.last_items.proofs.Laws.Kept.{member_any, repeated_any, stored_item, unhashed}
use Rattle.last_items.proofs.hashed.Hashed.repeats.Goals as goal

pub any-requires-clause-callable : goal.any-requires-clause-callable
any-requires-clause-callable c =
    let r = c.args.self.now.records in
    serves_from_places (YieldsList-from_slice r.numbers.now cc) (λ x q k. search rules)
    (λ x k h e. let other = stored_item r.file.now r.numbers.now r.stored h e in search rules)

pub returns-then-contains : goal.returns-then-contains
returns-then-contains c =
    let r = c.args.self.now.records in
    let test : ℕ → Bool = λ number. same_features feature_count (item_at c.args.file.now c.args.number) (item_at r.file.now number) in
    any_from_yields_List test c.any.new.self _ _ c.any.ensures.ran (YieldsList-from_slice r.numbers.now cc) (λ x b q k. search (rules, tests))
    ∙ repeated_any feature_count (item_at c.args.file.now c.args.number) r.file.now r.numbers.now

pub returns-else-contains : goal.returns-else-contains
returns-else-contains c =
    let r = c.args.self.now.records in
    c.if-contains.false
    ∙ sym (unhashed c.args.file.now (λ i. let small = c.type_inv.file i in omega arith) c.args.number c.requires.stored
    r.file.now r.bytes r.numbers.now r.stored
    (ap₂ member (sym c.requires.hashed) (sym c.args.self.now.hashed) ∙ sym (member_any c.args.hash c.args.self.now.hashes.now) ∙ sym c.contains.ensures.value ∙ c.if-contains.false))
