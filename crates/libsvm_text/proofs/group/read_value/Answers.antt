-- `libsvm_text::group::read_value` meets its contract. Assumes nothing.
use mathlib.Core.Path.{◌≡◌, refl, sym, ◌∙◌, ap}
use Prim.Native.Nat.{ℕ, ◌+◌}
use borrow.Author.Tests.{eq-eqb, ne_eqb}
use lib.Dec.{eqb}
use lib.ListN.{get_or}
use Rattle.std.specs.Prelude.{Some}
use Rattle.libsvm_text.proofs.Laws.Value.{digits_place, reads_led, reads_signed}
use Rattle.libsvm_text.proofs.group.read_value.Goals as goal
use Rattle.libsvm_text.proofs.group.read_value.Goals.{then-minus, else-minus}

-- the place after the sign, or where there is none
module _ (byte start at : ℕ) where
  after_sign : byte ≡ 45 → at ≡ start + 1 → at ≡ digits_place (eqb byte 45) start
  after_sign h e = e ∙ sym (ap (λ t. digits_place t start) (eq-eqb byte 45 h))

  no_sign : (byte ≡ 45 → ⊥) → at ≡ start → at ≡ digits_place (eqb byte 45) start
  no_sign h e = e ∙ sym (ap (λ t. digits_place t start) (ne_eqb byte 45 h))

pub returns : goal.returns
returns c =
    let byte = get_or c.args.from.text.now c.args.from.at 0 in
    let place : c.if-minus.digits_at ≡ digits_place (eqb byte 45) c.args.from.at =
    elim c.if-minus.branch [ then-minus w ↦ after_sign _ _ _ w.if-minus.true w.digits_at-is | else-minus w ↦ no_sign _ _ _ w.if-minus.false w.digits_at-is ] in
    reads_signed c.args.from.text.now c.args.from.at (eqb byte 45) refl (Some _) place
    (reads_led c.args.from.text.now c.if-minus.digits_at (eqb byte 45) c.in-Some.ensures c.signed.ensures)
