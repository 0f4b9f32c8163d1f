-- What writing a file of parameters and items comes to: the main definition of this crate (document 02, request (b)). Assumes nothing.
use Rattle.std.specs.Prelude.{List, ℕ, leb, ℤ, length}
use Rattle.training_file.specs.declared.parameters.Parameters.{Parameters}
use Rattle.training_file.specs.declared.refusal.Refusal.TheVariants.{FileLength, Header, Labels, Record}
use Rattle.training_file.specs.Parameters.{parameters_allowed, records_most}
use Rattle.training_file.specs.Item.{both_labels}
use Rattle.training_file.specs.Record.{every}
use Rattle.written_file.specs.Output.{Writing, unless, write_into}
use Rattle.writing.specs.Row.{row_allowed, row_items}

-- "Checks are those of the reader in the order 2, 1 (over 256 items), 4, 5", then 10: "tested last"
unfoldable pub writing : Parameters → List (List ℤ) → (room : ℕ) → Writing
writing p rows room =
    unless Header (parameters_allowed p)
    (unless FileLength (leb (length rows) records_most)
    (unless Record (every (row_allowed p.used) rows)
    (unless Labels (both_labels (row_items rows))
    (write_into room p (row_items rows)))))
