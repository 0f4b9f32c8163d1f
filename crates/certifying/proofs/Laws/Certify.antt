-- Demand 3 for certifying. Assumes nothing.
use mathlib.Core.Path.{◌≡◌, refl}
use mathlib.Core.List.{List}
use Prim.Native.Nat.{ℕ}
use Rattle.std.proofs.Common.{Result, Ok, Err}
use Rattle.training_file.specs.declared.refusal.Refusal.{Refusal}
use Rattle.training_file.specs.declared.parameters.Parameters.{Parameters}
use Rattle.training_file.specs.declared.item.Item.{Item}
use Rattle.reading.specs.Reading.{accepted, reading}
use Rattle.reading.proofs.Laws.Calls.{file_either}
use Rattle.dual_problem.specs.Problem.{problem, at}
use Rattle.dual_problem.proofs.Laws.Problem.{problem_gram}
use Rattle.dual_problem.proofs.Laws.FileProblem.Read.{features_in_range, labels_present}
use Rattle.dual_problem.proofs.Laws.Problem.Distance.{bounded_distance}
use Rattle.certifying.specs.Multipliers.{judgement}
use Rattle.certifying.proofs.Laws.Multipliers.{judgement_feasible}
use Rattle.certifying.specs.Certify.{certify_judged, certifying, CertifiedDistance}

-- demand 3, whatever the file and the multipliers
pub certified_distance : (file a : List ℕ) → CertifiedDistance (reading file) a (certifying file a)
certified_distance file a = file_either _ _ file (λ r answer. CertifiedDistance r a answer) (λ why e. tt) (λ p order items e. by p order items e (judgement (problem p items) a) refl)
  where
    by : (p : Parameters) (order : List ℕ) (items : List Item) → reading file ≡ accepted p order items → (j : Result Unit Refusal) → judgement (problem p items) a ≡ j → CertifiedDistance (accepted p order items) a (certify_judged (problem p items) a j)
    by p order items r (Err why) e = tt
    by p order items r (Ok u) e =
        bounded_distance (problem p items) (problem_gram p items (features_in_range file p order items r)) (labels_present file p order items r) (at a) (judgement_feasible (problem p items) a e).1
