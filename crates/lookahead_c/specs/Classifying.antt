-- What a call for classifying answers in C, by what the library answers. Assumes nothing.
use Rattle.std.specs.Prelude.{ℕ, Result, Ok, Err}
use Rattle.training_file.specs.declared.refusal.Refusal.{Refusal}
use Rattle.classifying.specs.declared.classify.Class.{Class}
use Rattle.lookahead_c.specs.declared.refusal.RefusalNumbers.{RefusalNumbers}
use Rattle.lookahead_c.specs.Numbering.{class_number, refusal_answered}

-- the lent number after the call, by the one before it: a refusal does not change it
abbrev pub classify_found : Result Class Refusal → ℕ → ℕ
classify_found (Err why) before = before
classify_found (Ok class) before = class_number class

-- all that the caller sees after the call: the refusal answered, and the lent number
pub record ClassifySeen : Type 0 where
  pub refusal : RefusalNumbers
  pub found : ℕ

abbrev pub classify_seen : Result Class Refusal → ℕ → ClassifySeen
classify_seen answer before = record { refusal = refusal_answered answer; found = classify_found answer before }
