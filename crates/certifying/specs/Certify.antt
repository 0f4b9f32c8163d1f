-- Certifying: the thresholds of any feasible multipliers of any file, or a refusal (document 01; demand 3 for multipliers of any source).
-- Assumes nothing.
use Rattle.std.specs.Prelude.{List, ℕ, Result, Ok, Err}
use Rattle.training_file.specs.declared.refusal.Refusal.{Refusal}
use Rattle.reading.specs.Reading.{Reading, refused, accepted, reading}
use Rattle.reading.specs.Calls.{file_first}
use Rattle.dual_problem.specs.Problem.{BoundedDistance, Problem, problem, at}
use Rattle.thresholds.specs.declared.extremes.Thresholds.{Thresholds}
use Rattle.thresholds.specs.Extremes.{thresholds_of}
use Rattle.certifying.specs.Multipliers.{judgement}

-- judged multipliers: the refusal, or both thresholds
abbrev pub certify_judged : Problem → List ℕ → Result Unit Refusal → Result Thresholds Refusal
certify_judged P a (Err why) = Err why
certify_judged P a (Ok feasible) = Ok (thresholds_of P (at a))

-- multipliers of a problem, judged first
abbrev pub certify_items : Problem → List ℕ → Result Thresholds Refusal
certify_items P a = certify_judged P a (judgement P a)

-- any file and any multipliers: the refusals of the file, then those of the multipliers
abbrev pub certifying : List ℕ → List ℕ → Result Thresholds Refusal
certifying file a = file_first Err (λ p order items. certify_items (problem p items) a) (reading file)

-- Demand 3, "the same holds for any multipliers that certifying accepts, whatever their source, with the thresholds that it answers"
abbrev pub CertifiedDistance : Reading → List ℕ → Result Thresholds Refusal → Type 0
CertifiedDistance (refused why) a answer = Unit {0}
CertifiedDistance (accepted p order items) a (Err why) = Unit {0}
CertifiedDistance (accepted p order items) a (Ok found) = BoundedDistance (problem p items) found.lower found.upper (at a)
