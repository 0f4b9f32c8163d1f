-- What a call that writes a file answers in C, by what the library answers: writing, and what others share with it. Assumes nothing.
use Rattle.std.specs.Prelude.{List, ℕ, ℤ, Result, Ok, Err}
use Rattle.training_file.specs.declared.parameters.Parameters.{Parameters}
use Rattle.training_file.specs.declared.refusal.Refusal.{Refusal}
use Rattle.training_file.specs.declared.refusal.Refusal.TheVariants.{Header}
use Rattle.training_file.specs.Parameters.{kernel_allowed}
use Rattle.written_file.specs.Output.{Writing, output_after, unless, written_answer}
use Rattle.writing.specs.Writing.{writing}
use Rattle.lookahead_c.specs.declared.parameters.ParameterNumbers.{ParameterNumbers}
use Rattle.lookahead_c.specs.declared.refusal.RefusalNumbers.{RefusalNumbers}
use Rattle.lookahead_c.specs.Numbering.{refusal_answered}
use Rattle.lookahead_c.specs.Parameters.{parameters_in}

-- a call by parameters as numbers: 2 of a byte that names no kernel, and then as the library does
abbrev pub by_numbers : ParameterNumbers → (Parameters → Writing) → Writing
by_numbers q call = unless Header (kernel_allowed q.kernel) (call (parameters_in q))

abbrev pub write_numbers : ParameterNumbers → List (List ℤ) → (room : ℕ) → Writing
write_numbers q rows room = by_numbers q (λ p. writing p rows room)

-- the lent length after the call, by that before it: a refusal leaves it
abbrev pub length_after : Result ℕ Refusal → ℕ → ℕ
length_after (Err why) before = before
length_after (Ok length) before = length

-- all that the caller sees after the call: the refusal answered, the lent length and the lent output
pub record WriteSeen : Type 0 where
  pub refusal : RefusalNumbers
  pub length : ℕ
  pub output : List ℕ

abbrev pub write_seen : Writing → ℕ → List ℕ → WriteSeen
write_seen written length output =
    record {
      refusal = refusal_answered (written_answer written);
      length = length_after (written_answer written) length;
      output = output_after written output;
    }
