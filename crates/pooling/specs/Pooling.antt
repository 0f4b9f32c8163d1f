-- What the pool of two files comes to: the main definition of this crate (document 02, request (h)). Assumes nothing.
use Rattle.std.specs.Prelude.{Bool, ◌&&◌, List, ◌++◌, ℕ, eqb, leb, length}
use Rattle.training_file.specs.declared.parameters.Parameters.{Parameters}
use Rattle.training_file.specs.declared.item.Item.{Item}
use Rattle.training_file.specs.declared.refusal.Refusal.TheVariants as refusal
use Rattle.training_file.specs.Parameters.{byte_of_kernel, records_most}
use Rattle.training_file.specs.Item.{both_labels}
use Rattle.reading.specs.Reading.{reading}
use Rattle.reading.specs.Calls.{file_first}
use Rattle.written_file.specs.Output.{Writing, refused, unless, write_into}
use Rattle.last_items.specs.Last.{last_only}

-- that neither "d or kernel differ": two kernels are the same where their bytes are
abbrev pub alike : (older newer : Parameters) → Bool
alike older newer = eqb older.used newer.used && eqb (byte_of_kernel older.kernel) (byte_of_kernel newer.kernel)

-- of the items left: 5, then "15, over 256 items left, which takes the place of the writer's 1 and is tested after 5 and before 10". The
-- writer's other checks, 2 and 4, can't fail here (`left_written`).
abbrev pub write_left : (room : ℕ) → Parameters → (left : List Item) → Writing
write_left room p left = unless refusal.Labels (both_labels left) (unless refusal.Pool (leb (length left) records_most) (write_into room p left))

-- "The pool takes the older file's items, then the newer's", of which the last stay; "Parameters are the newer file's". "14, d or kernel
-- differ, tested after both files"
abbrev pub pool_items : (room : ℕ) → (older : Parameters) → List Item → (newer : Parameters) → List Item → Writing
pool_items room older older_items newer newer_items =
    unless refusal.Unlike (alike older newer) (write_left room newer (last_only newer.used (older_items ++ newer_items)))

-- "The older file is judged first, then the newer."
unfoldable pub pooling : (older newer : List ℕ) → (room : ℕ) → Writing
pooling older newer room =
    file_first refused (λ p order items. file_first refused (λ q others more. pool_items room p items q more) (reading newer)) (reading older)
