-- Bytes that were read into a buffer. Assumes nothing.
use Rattle.std.specs.Prelude.{IfOk, List, ℕ, min, ◌+◌, ◌≤◌, length, Result, Ok, Err}

-- what a read into so many places returned: the number of bytes that came, never more than there are places, or the error
abbrev pub input_of : {E : Type 0} → Result ℕ E → ℕ → Result ℕ E
input_of (Ok count) places = Ok (min count places)
input_of (Err error) places = Err error

-- the bytes that came from a place on end within the buffer
abbrev pub FitsBuffer : {E : Type 0} → ℕ → Result ℕ E → List ℕ → Type 0
FitsBuffer from got buffer = IfOk got (λ count. from + count ≤ length buffer)
