-- What a call for importing comes to in C. Assumes nothing.
use Rattle.std.specs.Prelude.{List, ℕ}
use Rattle.written_file.specs.Output.{Writing}
use Rattle.importing.specs.Importing.{importing}
use Rattle.lookahead_c.specs.declared.parameters.ParameterNumbers.{ParameterNumbers}
use Rattle.lookahead_c.specs.Writing.{by_numbers}

-- importing by parameters as numbers
abbrev pub import_numbers : ParameterNumbers → (text : List ℕ) → (room : ℕ) → Writing
import_numbers q text room = by_numbers q (λ p. importing p text room)
