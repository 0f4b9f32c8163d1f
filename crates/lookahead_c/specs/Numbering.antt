-- The numbers that stand for an ending, for a class and for a refusal in C, where there are no enums. include/lookahead.h has the same
-- numbers under names. 0 stands for none of them, so that a number the caller cleared ahead of the call is told from one that was answered.
-- Assumes nothing.
use Rattle.std.specs.Prelude.{◌≡◌, ◌≢◌, ◌⊎◌, ℕ, ◌≤◌, Result, Ok, Err}
use Rattle.training_file.specs.declared.refusal.Refusal.{Refusal}
use Rattle.training_file.specs.Refusal.{number_of, record_of}
use Rattle.smo.specs.declared.ending.Ending.{Ending}
use Rattle.smo.specs.declared.ending.Ending.TheVariants.{Converged, Stuck, Spent}
use Rattle.classifying.specs.declared.classify.Class.{Class}
use Rattle.classifying.specs.declared.classify.Class.TheVariants.{LookedUp, PassedOver, Undecided}
use Rattle.lookahead_c.specs.declared.refusal.RefusalNumbers.{RefusalNumbers}

abbrev pub ending_number : Ending → ℕ
ending_number Converged = 1
ending_number Stuck = 2
ending_number Spent = 3

abbrev pub class_number : Class → ℕ
class_number LookedUp = 1
class_number PassedOver = 2
class_number Undecided = 3

-- a refusal by its number, with the record that it carries
abbrev pub refusal_numbers : Refusal → RefusalNumbers
refusal_numbers why = record { number = number_of why; at = record_of why }

-- what stands for it where nothing is refused
abbrev pub no_refusal : RefusalNumbers
no_refusal = record { number = 0; at = 0 }

-- the refusal that a caller in C sees, by what the library answers
abbrev pub refusal_answered : {A : Type 0} → Result A Refusal → RefusalNumbers
refusal_answered (Ok value) = no_refusal
refusal_answered (Err why) = refusal_numbers why

-- the record that the caller sees: with 3 and 16 one of 1 to 256, otherwise none, for which 0 stands, also where nothing is refused
pub record RecordSeen (refusal : RefusalNumbers) : Type 0 where
  pub at_fault : (refusal.number ≡ 3) ⊎ (refusal.number ≡ 16) → (1 ≤ refusal.at) × (refusal.at ≤ 256)
  pub otherwise : refusal.number ≢ 3 → refusal.number ≢ 16 → refusal.at ≡ 0
