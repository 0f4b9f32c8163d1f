-- What importing a text comes to: the main definition of this crate (document 02, request (c)). Assumes nothing.
use Rattle.std.specs.Prelude.{List, ℕ, leb, length}
use Rattle.std.proofs.Math.Option.{Option, none, some}
use Rattle.training_file.specs.declared.parameters.Parameters.{Parameters}
use Rattle.training_file.specs.declared.refusal.Refusal.TheVariants as refusal
use Rattle.training_file.specs.Parameters.{parameters_allowed, records_most}
use Rattle.training_file.specs.Item.{both_labels}
use Rattle.training_file.specs.Record.{every}
use Rattle.written_file.specs.Output.{Writing, refused, unless, write_into}
use Rattle.libsvm_text.specs.Form.{Line}
use Rattle.libsvm_text.specs.Items.{line_allowed, line_items}
use Rattle.libsvm_text.specs.Lines.{text_lines}

-- "12, over 256 lines", "then 4, 5, 10", and "the result is a file as in (b)"
abbrev pub import_lines : Parameters → (room : ℕ) → List Line → Writing
import_lines p room lines =
    unless refusal.Lines (leb (length lines) records_most)
    (unless refusal.Record (every line_allowed lines)
    (unless refusal.Labels (both_labels (line_items lines))
    (write_into room p (line_items lines))))

-- "11, text not of this form"
abbrev pub import_found : Parameters → (room : ℕ) → Option (List Line) → Writing
import_found p room none = refused refusal.Text
import_found p room (some lines) = import_lines p room lines

-- "Parameters come from the caller", "The order is 2, 11, 12, then 4, 5, 10."
unfoldable pub importing : Parameters → (text : List ℕ) → (room : ℕ) → Writing
importing p text room = unless refusal.Header (parameters_allowed p) (import_found p room (text_lines p.used text))
