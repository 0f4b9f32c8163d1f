-- What a call for reading answers in C, by what the library answers. Assumes nothing.
use Rattle.std.specs.Prelude.{ℕ, Result, Ok, Err}
use Rattle.training_file.specs.declared.parameters.Parameters.{Parameters}
use Rattle.training_file.specs.declared.refusal.Refusal.{Refusal}
use Rattle.lookahead_c.specs.declared.read.ReadAnswer.{ReadAnswer}
use Rattle.lookahead_c.specs.Numbering.{no_refusal, refusal_numbers}
use Rattle.lookahead_c.specs.Parameters.{no_parameters, parameter_numbers}

-- the refusal, n and the parameters; after a refusal 0 for each of these numbers
abbrev pub read_answer : Result (Parameters × ℕ) Refusal → ReadAnswer
read_answer (Err why) = record { refusal = refusal_numbers why; items = 0; parameters = no_parameters }
read_answer (Ok (p, count)) = record { refusal = no_refusal; items = count; parameters = parameter_numbers p }
