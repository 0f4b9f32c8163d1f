-- `libsvm_text::group::read_zero` meets its contract. Assumes nothing.
use mathlib.Core.Path.{sym, ◌∙◌}
use Rattle.integers.proofs.Laws.Truth.{clash}
use Rattle.libsvm_text.proofs.Laws.Value.{reads_none, reads_nought}
use Rattle.libsvm_text.proofs.group.read_zero.Goals as goal
use Rattle.libsvm_text.proofs.group.read_zero.Goals.{then-minus-via-then-minus, then-minus-via-else-minus+then-text-at-ne48, then-minus-via-else-minus+else-text-at-ne48+then-is_ascii_digit}

pub returns-then-minus : goal.returns-then-minus
returns-then-minus c =
    reads_none c.args.from.text.now c.args.from.at c.args.minus c.requires
    (λ plus nought stop.
    elim c.then-minus.branch [
      | then-minus-via-then-minus w ↦ clash w.if-minus.true plus
      | then-minus-via-else-minus+then-text-at-ne48 w ↦ absurd (w.if-text-at-ne48.true nought)
      | then-minus-via-else-minus+else-text-at-ne48+then-is_ascii_digit w ↦ clash w.if-is_ascii_digit.true (w.is_ascii_digit.ensures.value ∙ stop)
    ])

pub returns : goal.returns
returns c = reads_nought c.args.from.text.now c.args.from.at c.if-minus.false c.if-text-at-ne48.false (sym c.if-is_ascii_digit.ensures.value)
