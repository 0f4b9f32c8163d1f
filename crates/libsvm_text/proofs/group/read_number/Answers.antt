-- `libsvm_text::group::read_number` meets its contract, by the count of digits. Assumes nothing.
use mathlib.Core.Path.{sym, ◌∙◌}
use borrow.Author.Tests.{eq-eqb, le-leb, le-ltb, lt-leb, lt-ltb, ne_eqb}
use Rattle.integers.proofs.Laws.Truth.{&&_false_left, &&_false_right, &&_true}
use Rattle.libsvm_text.proofs.Laws.Group.{ShortRead, number_none, short_one, short_two}
use Rattle.libsvm_text.proofs.group.read_number.Goals as goal
use Rattle.libsvm_text.proofs.group.read_number.Goals.{then-is_ascii_digit, else-is_ascii_digit}
use Rattle.libsvm_text.proofs.group.read_number.Goals.{else-last-number-via-then-last-number+then-number-used+else-text-end-eq58, else-last-number-via-then-last-number+else-number-used, else-last-number-via-else-last-number}

pub returns-then-not-is_leading : goal.returns-then-not-is_leading
returns-then-not-is_leading c = number_none c.args.from.used c.args.last c.args.from.text.now c.args.from.at (sym c.if-not-is_leading.ensures)

pub returns-then-text-end-eq58 : goal.returns-then-text-end-eq58
returns-then-text-end-eq58 c =
    let led = sym c.if-not-is_leading.ensures in
    let short : ShortRead c.args.from.used c.args.last c.args.from.text.now c.args.from.at c.if-is_ascii_digit.number =
    elim c.if-is_ascii_digit.branch [
      | then-is_ascii_digit w ↦ short_two _ _ _ _ led c.args.from.few (sym c.is_ascii_digit.ensures.value ∙ w.if-is_ascii_digit.true) w.number-is
      | else-is_ascii_digit w ↦ short_one _ _ _ _ led (sym c.is_ascii_digit.ensures.value ∙ w.if-is_ascii_digit.false) w.number-is
    ] in
    short.found (
    short.tested
    ∙ &&_true (&&_true (lt-ltb _ _ c.if-last-number.true) (le-leb _ _ c.if-number-used.true)) (eq-eqb _ 58 c.if-text-end-eq58.true))

pub returns-else-last-number : goal.returns-else-last-number
returns-else-last-number c =
    let led = sym c.if-not-is_leading.ensures in
    let short : ShortRead c.args.from.used c.args.last c.args.from.text.now c.args.from.at c.if-is_ascii_digit.number =
    elim c.if-is_ascii_digit.branch [
      | then-is_ascii_digit w ↦ short_two _ _ _ _ led c.args.from.few (sym c.is_ascii_digit.ensures.value ∙ w.if-is_ascii_digit.true) w.number-is
      | else-is_ascii_digit w ↦ short_one _ _ _ _ led (sym c.is_ascii_digit.ensures.value ∙ w.if-is_ascii_digit.false) w.number-is
    ] in
    short.tested
    ∙ elim c.else-last-number.branch [
      | else-last-number-via-then-last-number+then-number-used+else-text-end-eq58 w ↦ &&_false_right _ (ne_eqb _ 58 w.if-text-end-eq58.false)
      | else-last-number-via-then-last-number+else-number-used w ↦ &&_false_left _ (&&_false_right _ (lt-leb _ _ w.if-number-used.false))
      | else-last-number-via-else-last-number w ↦ &&_false_left _ (&&_false_left _ (le-ltb _ _ w.if-last-number.false))
    ]
