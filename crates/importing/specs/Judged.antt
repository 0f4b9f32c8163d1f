-- What the two passes over a text rest on: what the first answers, and what the second is told. Assumes nothing.
use Rattle.std.specs.Prelude.{◌≡◌, true, cond, List, [], ℕ, ◌≤◌, length, Option as Told, Some, None, Result, Ok, Err}
use Rattle.std.proofs.Math.Option.{Option, none, some}
use Rattle.training_file.specs.declared.refusal.Refusal.{Refusal}
use Rattle.training_file.specs.declared.refusal.Refusal.TheVariants as refusal
use Rattle.training_file.specs.declared.item.Label.TheVariants.{LookedUp}
use Rattle.training_file.specs.declared.item.Item.{Item}
use Rattle.training_file.specs.Layout.{feature_count}
use Rattle.training_file.specs.Parameters.{records_most}
use Rattle.training_file.specs.Item.{labelled}
use Rattle.training_file.specs.Record.{every}
use Rattle.libsvm_text.specs.Form.{Line}
use Rattle.libsvm_text.specs.Items.{line_allowed, line_items}
use Rattle.libsvm_text.specs.Lines.{text_lines}
use Rattle.importing.specs.declared.passes.Judged.{Judged}

-- how many of the lines are looked up, none where a value is outside the range
abbrev pub found_looked_up : List Line → Told ℕ
found_looked_up lines = cond (every line_allowed lines) (Some (labelled LookedUp (line_items lines))) None

-- of a text of the form: how many lines it has, and how many are looked up
abbrev pub judged : Option (List Line) → Result Judged Refusal
judged none = Err refusal.Text
judged (some lines) = Ok (record { lines = length lines; looked_up = found_looked_up lines })

-- the items of the lines that are found
abbrev pub found_items : Option (List Line) → List Item
found_items none = []
found_items (some lines) = line_items lines

-- a text that the first pass has judged, with nothing to be refused before the labels
pub record Importable (d : ℕ) (text : List ℕ) (count : ℕ) : Type 0 where
  pub used : d ≤ feature_count
  pub lines : List Line
  pub found : text_lines d text ≡ some lines
  pub counted : length lines ≡ count
  pub most : count ≤ records_most
  pub allowed : every line_allowed lines ≡ true
