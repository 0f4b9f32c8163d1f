-- Laws of the call that imports: what it comes to by the stage that decides it. Assumes nothing.
use mathlib.Core.Path.{◌≡◌, ◌∙◌, ap}
use mathlib.Core.Bool.{Bool, true, false}
use mathlib.Core.List.{List}
use mathlib.Core.Option.{none, some}
use Prim.Native.Nat.{ℕ}
use lib.Dec.{leb}
use lib.ListN.{length, length-map}
use Rattle.training_file.specs.declared.parameters.Parameters.{Parameters}
use Rattle.training_file.specs.declared.refusal.Refusal.TheVariants as refusal
use Rattle.training_file.specs.Parameters.{parameters_allowed, records_most}
use Rattle.training_file.specs.Item.{both_labels}
use Rattle.training_file.specs.Record.{every}
use Rattle.written_file.specs.File.{file_of}
use Rattle.written_file.specs.Output.{file_fits, refused, unless, wrote}
use Rattle.libsvm_text.specs.Form.{Line}
use Rattle.libsvm_text.specs.Items.{line_allowed, line_item, line_items}
use Rattle.libsvm_text.specs.Lines.{text_lines}
use Rattle.importing.specs.Importing.{import_found, import_lines, importing}

module _ (p : Parameters) (text : List ℕ) (room : ℕ) where
  pub imports_2 : parameters_allowed p ≡ false → importing p text room ≡ refused refusal.Header
  unfolding importing
  imports_2 a = ap (λ t. unless refusal.Header t (import_found p room (text_lines p.used text))) a

  module _ (a : parameters_allowed p ≡ true) where
    pub imports_11 : text_lines p.used text ≡ none → importing p text room ≡ refused refusal.Text
    unfolding importing
    imports_11 f = ap (λ t. unless refusal.Header t (import_found p room (text_lines p.used text))) a ∙ ap (import_found p room) f

    module _ (lines : List Line) (f : text_lines p.used text ≡ some lines) where
      pub imports_lines : importing p text room ≡ import_lines p room lines
      unfolding importing
      imports_lines = ap (λ t. unless refusal.Header t (import_found p room (text_lines p.used text))) a ∙ ap (import_found p room) f

      pub imports_12 : leb (length lines) records_most ≡ false → importing p text room ≡ refused refusal.Lines
      imports_12 m = imports_lines ∙ rw m

      module _ (m : leb (length lines) records_most ≡ true) where
        pub imports_4 : every line_allowed lines ≡ false → importing p text room ≡ refused refusal.Record
        imports_4 e = imports_lines ∙ rw (m, e)

        module _ (e : every line_allowed lines ≡ true) where
          pub imports_5 : both_labels (line_items lines) ≡ false → importing p text room ≡ refused refusal.Labels
          imports_5 b = imports_lines ∙ rw (m, e, b)

          module _ (b : both_labels (line_items lines) ≡ true) where
            -- the last test, by the number of lines
            last : {fits : Bool} → file_fits (length lines) room ≡ fits → importing p text room ≡ unless refusal.Output fits (wrote (file_of p (line_items lines)))
            last f =
                imports_lines
                ∙ rw (m, e, b)
                (ap (λ t. unless refusal.Output t (wrote (file_of p (line_items lines)))) (ap (λ (n : ℕ). file_fits n room) (length-map lines line_item) ∙ f))

            pub imports_10 : file_fits (length lines) room ≡ false → importing p text room ≡ refused refusal.Output
            imports_10 f = last f

            pub imports_all : file_fits (length lines) room ≡ true → importing p text room ≡ wrote (file_of p (line_items lines))
            imports_all f = last f
