-- What a read returned, by which of the two it is. Assumes nothing.
use mathlib.Core.Path.{◌≡◌, sym, ap, ◌∙◌}
use mathlib.Core.List.{List}
use Prim.Native.Nat.{ℕ, ◌+◌, ◌≤◌}
use native.Mathlib.Omega.{arith}
use lib.ListN.{length}
use Rattle.std.specs.Prelude.{Result, Ok, Err, min}
use Rattle.train.specs.Input.{FitsBuffer, input_of}

module _ {E : Type 0} where
  -- an error is one
  pub failed_is : (got : Result ℕ E) (places : ℕ) (error : E) → got ≡ Err error → Err error ≡ input_of got places
  failed_is got places error e = ap (λ r. input_of r places) (sym e)

  -- any other counts the bytes
  pub bytes_are : (got : Result ℕ E) (places n count : ℕ) → got ≡ Ok n → count ≡ min n places → Ok count ≡ input_of got places
  bytes_are got places n count e is = ap Ok is ∙ ap (λ r. input_of r places) (sym e)

  -- bytes that came into the places from `from` on fit
  pub came_fits : (from : ℕ) (got : Result ℕ E) (places : ℕ) (buffer : List ℕ) → from + places ≤ length buffer → FitsBuffer from (input_of got places) buffer
  came_fits from (Ok n) places buffer h = omega arith
  came_fits from (Err error) places buffer h = tt
