-- `libsvm_text::numeral::read_digits` meets its contract, by the count of digits. Assumes nothing.
use mathlib.Core.Path.{◌≡◌, sym, ◌∙◌, ap}
use mathlib.Core.List.{List}
use Prim.Native.Nat.{ℕ, ◌+◌, ◌-◌}
use native.Mathlib.Omega.{arith}
use lib.ListN.{drop, length, length-drop, take}
use Rattle.std.proofs.Math.Seq.{take-length}
use Rattle.std.specs.List.{prefix_len}
use Rattle.std.proofs.lemmas.List.Sums.{prefix_len-le-length}
use Rattle.libsvm_text.specs.Form.{digit}
use Rattle.libsvm_text.proofs.Laws.Numeral.{leading_count, reads_more, reads_one, reads_three, reads_two}
use Rattle.libsvm_text.proofs.numeral.read_digits.Goals as goal

-- what a text has from a place on
all_from : (text : List ℕ) (at : ℕ) → take (length text - at) (drop at text) ≡ drop at text
all_from text at = ap (λ k. take k (drop at text)) (sym (length-drop at text)) ∙ take-length (drop at text)

pub returns-then-not-is_ascii_digit : goal.returns-then-not-is_ascii_digit
returns-then-not-is_ascii_digit c = reads_one c.args.from.text.now c.args.from.at (sym c.if-not-is_leading.ensures) (sym c.if-not-is_ascii_digit.ensures.value)

pub returns-then-not-is_ascii_digit-2 : goal.returns-then-not-is_ascii_digit-2
returns-then-not-is_ascii_digit-2 c =
    reads_two c.args.from.text.now c.args.from.at (sym c.if-not-is_leading.ensures) (sym c.if-not-is_ascii_digit.ensures.value)
    (sym c.if-not-is_ascii_digit-2.ensures.value)

pub returns-then-not-is_ascii_digit-3 : goal.returns-then-not-is_ascii_digit-3
returns-then-not-is_ascii_digit-3 c =
    reads_three c.args.from.text.now c.args.from.at (sym c.if-not-is_leading.ensures) (sym c.if-not-is_ascii_digit.ensures.value)
    (sym c.if-not-is_ascii_digit-2.ensures.value) (sym c.if-not-is_ascii_digit-3.ensures.value) c.limited.ensures

pub overflow_add-result-3 : goal.overflow_add-result-3
overflow_add-result-3 c =
    let rest = drop (c.args.from.at + 4) c.args.from.text.now in
    let most = prefix_len-le-length digit rest in
    let count = c.digits_in.ensures ∙ ap (prefix_len digit) (all_from c.args.from.text.now (c.args.from.at + 4)) in
    omega (arith, most, count, length-drop (c.args.from.at + 4) c.args.from.text.now)

pub returns : goal.returns
returns c =
    let rest = drop (c.args.from.at + 4) c.args.from.text.now in
    let count = c.digits_in.ensures ∙ ap (prefix_len digit) (all_from c.args.from.text.now (c.args.from.at + 4)) in
    reads_more c.args.from.text.now c.args.from.at (sym c.if-not-is_leading.ensures) (sym c.if-not-is_ascii_digit.ensures.value)
    (sym c.if-not-is_ascii_digit-2.ensures.value) (sym c.if-not-is_ascii_digit-3.ensures.value) (count ∙ sym (leading_count rest))
