-- What a call comes to that writes a file into a lent output: request (b), and the requests whose result is "a file as in (b)". Assumes
-- nothing.
use Rattle.std.specs.Prelude.{Bool, true, false, List, ◌++◌, ℕ, leb, length, drop, Result, Ok, Err}
use Rattle.training_file.specs.declared.refusal.Refusal.{Refusal}
use Rattle.training_file.specs.declared.refusal.Refusal.TheVariants as refusal
use Rattle.training_file.specs.declared.parameters.Parameters.{Parameters}
use Rattle.training_file.specs.declared.item.Item.{Item}
use Rattle.training_file.specs.Refusal.{OneOf}
use Rattle.training_file.specs.Answers.{ok_if}
use Rattle.written_file.specs.File.{file_length, file_of}

-- a refusal, or the file
pub data Writing : Type 0 where
  refused : Refusal → Writing
  wrote : List ℕ → Writing

-- the rest of the call, unless it is refused before
abbrev pub unless : Refusal → Bool → Writing → Writing
unless why true rest = rest
unless why false rest = refused why

-- whether so many records fit into an output of so many bytes
abbrev pub file_fits : (n room : ℕ) → Bool
file_fits n room = leb (file_length n) room

-- "10, output shorter than the file, tested last"
abbrev pub write_into : (room : ℕ) → Parameters → List Item → Writing
write_into room p items = unless refusal.Output (file_fits (length items) room) (wrote (file_of p items))

-- the file's length, or the refusal
abbrev pub length_answer : (n room : ℕ) → Result ℕ Refusal
length_answer n room = ok_if (file_fits n room) (file_length n) refusal.Output

-- "On success it answers the file's length"
abbrev pub written_answer : Writing → Result ℕ Refusal
written_answer (refused why) = Err why
written_answer (wrote file) = Ok (length file)

-- "and the bytes past the file stay untouched in the lent output"; on a refusal all of it
abbrev pub output_after : Writing → List ℕ → List ℕ
output_after (refused why) output = output
output_after (wrote file) output = file ++ drop (length file) output

-- where the call refuses, it is with one of these numbers
abbrev pub Refuses : List ℕ → Writing → Type 0
Refuses numbers (refused why) = OneOf numbers why
Refuses numbers (wrote file) = Unit {0}
