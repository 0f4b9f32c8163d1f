-- What the code answers that judges: the value, or the refusal; an item, where it is allowed. Assumes nothing.
use Rattle.std.specs.Prelude.{Bool, cond, List, ℕ, ℤ, Option, Some, None, Result, Ok, Err}
use Rattle.training_file.specs.declared.refusal.Refusal.{Refusal}
use Rattle.training_file.specs.declared.refusal.Refusal.TheVariants as refusal
use Rattle.training_file.specs.declared.parameters.Kernel.{Kernel}
use Rattle.training_file.specs.declared.item.Label.{Label}
use Rattle.training_file.specs.declared.item.Item.{Item}
use Rattle.training_file.specs.Parameters.{kernel_allowed, kernel_of_byte}
use Rattle.training_file.specs.Item.{item_allowed, item_of}
use Rattle.training_file.specs.Record.{label_at, record_allowed}

-- a value, or a refusal where the test fails
abbrev pub ok_if : {A : Type 0} → Bool → A → Refusal → Result A Refusal
ok_if test value why = cond test (Ok value) (Err why)

-- ---- refusal 2: "a header field beyond its range", here the kernel

abbrev pub kernel_answer : ℕ → Result Kernel Refusal
kernel_answer byte = ok_if (kernel_allowed byte) (kernel_of_byte byte) refusal.Header

-- ---- an item, of a label's byte and sixteen features of which the first d are in use

abbrev pub item_answer : (d byte : ℕ) → List ℤ → Option Item
item_answer d byte features = cond (item_allowed d byte features) (Some (item_of byte features)) None

-- ---- refusal 4: "on the chain, a wrong label, .."

-- a record's label, where the record is allowed
abbrev pub record_answer : ℕ → List ℕ → ℕ → Result Label Refusal
record_answer d file r = ok_if (record_allowed d file r) (label_at file r) refusal.Record
