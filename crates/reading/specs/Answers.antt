-- What the stages of reading answer that judge the header: refusals 1 and 2 of document 01. Assumes nothing.
use Rattle.std.specs.Prelude.{List, ℕ, Result}
use Rattle.training_file.specs.declared.refusal.Refusal.{Refusal}
use Rattle.training_file.specs.declared.refusal.Refusal.TheVariants as refusal
use Rattle.training_file.specs.declared.parameters.Parameters.{Parameters}
use Rattle.training_file.specs.Layout.{records_stored}
use Rattle.training_file.specs.Header.{header_allowed, length_allowed, parameters_of}
use Rattle.training_file.specs.Answers.{ok_if}

-- stage 1: the number of records stored
abbrev pub stored_answer : List ℕ → Result ℕ Refusal
stored_answer file = ok_if (length_allowed file) (records_stored file) refusal.FileLength

-- stage 2: the parameters
abbrev pub header_answer : List ℕ → Result Parameters Refusal
header_answer file = ok_if (header_allowed file) (parameters_of file) refusal.Header
