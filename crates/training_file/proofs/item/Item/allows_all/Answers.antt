-- `training_file::item::Item::allows_all` meets its contract. Assumes nothing.
use borrow.Author.Rules.{rules}
use Rattle.std.proofs.Common.{◌≡◌, sym, ap, ◌∙◌, arith, refl, add-one, pos, get_or}
use mir.Syntax.{w8}
use Rattle.integers.specs.Places.{all}
use Rattle.integers.proofs.Laws.Bounds.{reads_element}
use Rattle.integers.proofs.Laws.Truth.{&&_false_left, &&_false_right, &&_true}
use Rattle.integers.proofs.Laws.Places.{all_fails, all_suc}
use Rattle.training_file.specs.Layout.{feature_count}
use Rattle.training_file.specs.Item.{feature_allowed, features_allowed, each_feature_allowed, zero_past}
use Rattle.training_file.proofs.item.Item.allows_all.Invariants.{allowed_at}
use Rattle.training_file.proofs.item.Item.allows_all.Goals as goal

pub returns-then-not-zero_past : goal.returns-then-not-zero_past
unfolding features_allowed
returns-then-not-zero_past c = sym (&&_false_right (each_feature_allowed c.args.features) (sym c.zero_past.ensures ∙ c.if-not-zero_past.true))

pub loop-feature-init : goal.loop-feature-init
unfolding all
loop-feature-init c = refl

pub returns-then-not-allows : goal.returns-then-not-allows
unfolding features_allowed
returns-then-not-allows c =
    let answer : allowed_at c.args.features c.loop-feature.feature-index ≡ c.allows.result = sym (c.allows.ensures ∙ ap feature_allowed (reads_element w8 (get_or c.args.features c.loop-feature.feature-index (pos 0)) (search rules))) in
    sym
    (&&_false_left (zero_past c.args.used c.args.features)
    (all_fails (allowed_at c.args.features) feature_count c.loop-feature.feature-index (omega arith) (answer ∙ c.if-not-allows.true)))

pub loop-feature-preserved : goal.loop-feature-preserved
loop-feature-preserved c =
    let answer : allowed_at c.args.features c.loop-feature.feature-index ≡ c.allows.result = sym (c.allows.ensures ∙ ap feature_allowed (reads_element w8 (get_or c.args.features c.loop-feature.feature-index (pos 0)) (search rules))) in
    rw add-one (all_suc (allowed_at c.args.features) c.loop-feature.feature-index c.loop-feature.invariant (answer ∙ c.if-not-allows.false))

pub returns : goal.returns
unfolding features_allowed
returns c =
    let e : c.loop-feature.feature-index ≡ feature_count = omega arith in
    sym (&&_true (ap (λ k. all k (allowed_at c.args.features)) (sym e) ∙ c.loop-feature.invariant) (sym c.zero_past.ensures ∙ c.if-not-zero_past.false))
