-- The refusals with which a call can end: those listed for it, which include/lookahead.h names. That no call ends with another, nor with
-- the number 0, so that by the number alone a caller in C tells a refusal from an answer, is in proofs/Laws/Refusals.antt. Assumes nothing.
use Rattle.std.specs.Prelude.{List, ℕ, Result, Ok, Err}
use Rattle.training_file.specs.declared.refusal.Refusal.{Refusal}
use Rattle.training_file.specs.Refusal.{OneOf}

-- where the library refuses, it is with one of these numbers
abbrev pub RefusesWith : {A : Type 0} → List ℕ → Result A Refusal → Type 0
RefusesWith numbers (Ok value) = Unit {0}
RefusesWith numbers (Err why) = OneOf numbers why
