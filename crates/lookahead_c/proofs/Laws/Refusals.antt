-- Each call ends with the refusals listed for it, and no others; 3 and 16 alone carry a record, and it is one of 1 to 256. Assumes nothing.
use Rattle.std.proofs.Common.{◌≡◌, refl, true, ◌&&◌, List, ℕ, arith, eqb, leb, ℤ, length, Result, Ok, Err}
use Rattle.integers.specs.Member.{member}
use Rattle.integers.specs.Zero.{is_zero}
use Rattle.integers.proofs.Laws.Truth.{chose_either}
use Rattle.training_file.specs.declared.parameters.Parameters.{Parameters}
use Rattle.training_file.specs.declared.item.Item.{Item}
use Rattle.training_file.specs.declared.refusal.Refusal.{Refusal}
use Rattle.training_file.specs.declared.refusal.Refusal.TheVariants as refusal
use Rattle.training_file.specs.Parameters.{kernel_allowed}
use Rattle.training_file.specs.Record.{every}
use Rattle.training_file.specs.Refusal.{certifying_refuses, classifying_refuses, importing_refuses, pooling_refuses, reading_refuses, training_refuses, writing_refuses}
use Rattle.training_file.proofs.Laws.Refusal.{one_of_alone, one_of_more}
use Rattle.reading.specs.Reading.{Reading, refused, accepted, reading}
use Rattle.reading.specs.Calls.{file_answer}
use Rattle.reading.proofs.Laws.Calls.{file_either}
use Rattle.reading.proofs.Laws.Reading.Fault.{refused_one_of}
use Rattle.written_file.specs.Output.{Refuses, Writing, written_answer}
use Rattle.written_file.specs.Output as written
use Rattle.written_file.proofs.Laws.Output.{unless_refuses}
use Rattle.writing.specs.Writing.{writing}
use Rattle.writing.proofs.Laws.Writing.{writing_refuses_lem}
use Rattle.importing.specs.Importing.{importing}
use Rattle.importing.proofs.Laws.Importing.{importing_refuses_lem}
use Rattle.pooling.specs.Pooling.{pooling}
use Rattle.pooling.proofs.Laws.Pooling.{pooling_refuses_lem}
use Rattle.dual_problem.specs.Problem.{Problem, problem, at}
use Rattle.thresholds.specs.declared.extremes.Thresholds.{Thresholds}
use Rattle.certifying.specs.Multipliers.{balance, judgement, within_ceilings}
use Rattle.certifying.specs.Certify.{certifying, certify_judged}
use Rattle.training.specs.Train.{TrainingLeft, train_file}
use Rattle.classifying.specs.declared.classify.Class.{Class}
use Rattle.classifying.specs.Classify.{classifying, classify_items, classify_judged, word_allowed}
use Rattle.lookahead_c.specs.declared.parameters.ParameterNumbers.{ParameterNumbers}
use Rattle.lookahead_c.specs.Numbering.{RecordSeen, refusal_answered}
use Rattle.lookahead_c.specs.Parameters.{parameters_in}
use Rattle.lookahead_c.specs.Reading.{read_answer}
use Rattle.lookahead_c.specs.Training.{TrainNumbers, train_seen}
use Rattle.lookahead_c.specs.Certifying.{certify_seen}
use Rattle.lookahead_c.specs.Classifying.{classify_seen}
use Rattle.lookahead_c.specs.Importing.{import_numbers}
use Rattle.lookahead_c.specs.Writing.{by_numbers, write_numbers, write_seen}
use Rattle.lookahead_c.specs.Refusals.{RefusesWith}

-- ---- reading
pub read_refusals : (file : List ℕ) → RefusesWith reading_refuses (file_answer (reading file))
read_refusals file = by (reading file) refl where
  by : (x : Reading) → reading file ≡ x → RefusesWith reading_refuses (file_answer x)
  by (refused why) e = refused_one_of file why e
  by (accepted p order items) e = tt

-- ---- training
pub train_refusals : (file a : List ℕ) (g : List ℤ) → RefusesWith training_refuses (train_file file a g).answer
unfolding every
train_refusals file a g =
    file_either _ _ file (λ r (left : TrainingLeft). RefusesWith training_refuses left.answer)
    (λ why e. one_of_more reading_refuses training_refuses why refl (refused_one_of file why e))
    (λ p order items e. chose_either (λ (left : TrainingLeft). RefusesWith training_refuses left.answer) (leb (length items) (length a) && leb (length items) (length g)) tt
    (one_of_alone training_refuses refusal.ListLength refl (λ q. omega arith) (λ q. omega arith)))

-- ---- judged multipliers: 6 to 8
judged_refusals : (P : Problem) (a : List ℕ) → RefusesWith certifying_refuses (judgement P a)
judged_refusals P a =
    chose_either (RefusesWith certifying_refuses) (eqb (length a) P.count)
    (chose_either (RefusesWith certifying_refuses) (within_ceilings P.count P (at a))
    (chose_either (RefusesWith certifying_refuses) (is_zero (balance P (at a))) tt
    (one_of_alone certifying_refuses refusal.Balance refl (λ q. omega arith) (λ q. omega arith)))
    (one_of_alone certifying_refuses refusal.Multiplier refl (λ q. omega arith) (λ q. omega arith)))
    (one_of_alone certifying_refuses refusal.ListLength refl (λ q. omega arith) (λ q. omega arith))

-- ---- certifying
certify_judged_lem : (P : Problem) (a : List ℕ) (j : Result Unit Refusal) → RefusesWith certifying_refuses j → RefusesWith certifying_refuses (certify_judged P a j)
certify_judged_lem P a (Err why) n = n
certify_judged_lem P a (Ok feasible) n = tt

pub certify_refusals : (file a : List ℕ) → RefusesWith certifying_refuses (certifying file a)
unfolding every
certify_refusals file a =
    file_either _ _ file (λ r (answer : Result Thresholds Refusal). RefusesWith certifying_refuses answer) (λ why e. one_of_more reading_refuses certifying_refuses why refl (refused_one_of file why e))
    (λ p order items e. certify_judged_lem (problem p items) a (judgement (problem p items) a) (judged_refusals (problem p items) a))

-- ---- classifying
module _ (p : Parameters) (items : List Item) (a : List ℕ) (word : List ℤ) where
  classify_judged_lem : (j : Result Unit Refusal) → RefusesWith certifying_refuses j → RefusesWith classifying_refuses (classify_judged p items a word j)
  unfolding every
  classify_judged_lem (Err why) n = one_of_more certifying_refuses classifying_refuses why refl n
  classify_judged_lem (Ok feasible) n =
      chose_either (RefusesWith classifying_refuses) (word_allowed word) tt (one_of_alone classifying_refuses refusal.WordFeature refl (λ q. omega arith) (λ q. omega arith))

  classify_items_lem : RefusesWith classifying_refuses (classify_items p items a word)
  classify_items_lem =
      chose_either (RefusesWith classifying_refuses) (eqb (length word) p.used)
      (classify_judged_lem (judgement (problem p items) a) (judged_refusals (problem p items) a))
      (one_of_alone classifying_refuses refusal.ListLength refl (λ q. omega arith) (λ q. omega arith))

pub classify_refusals : (file a : List ℕ) (word : List ℤ) → RefusesWith classifying_refuses (classifying file a word)
unfolding every
classify_refusals file a word =
    file_either _ _ file (λ r (answer : Result Class Refusal). RefusesWith classifying_refuses answer) (λ why e. one_of_more reading_refuses classifying_refuses why refl (refused_one_of file why e))
    (λ p order items e. classify_items_lem p items a word)

-- ---- calls by parameters as numbers: writing and importing
module _ (numbers : List ℕ) (two : member 2 numbers ≡ true) (q : ParameterNumbers) (call : Parameters → Writing) where
  numbers_refusals : ((p : Parameters) → Refuses numbers (call p)) → Refuses numbers (by_numbers q call)
  numbers_refusals refuses =
      unless_refuses numbers refusal.Header (kernel_allowed q.kernel) (call (parameters_in q)) two (λ e. omega arith) (λ e. omega arith) (refuses (parameters_in q))

pub write_refusals : (q : ParameterNumbers) (rows : List (List ℤ)) (room : ℕ) → Refuses writing_refuses (write_numbers q rows room)
write_refusals q rows room = numbers_refusals writing_refuses refl q (λ p. writing p rows room) (λ p. writing_refuses_lem p rows room)

pub import_refusals : (q : ParameterNumbers) (text : List ℕ) (room : ℕ) → Refuses importing_refuses (import_numbers q text room)
import_refusals q text room = numbers_refusals importing_refuses refl q (λ p. importing p text room) (λ p. importing_refuses_lem p text room)

-- ---- pooling
pub pool_refusals : (older newer : List ℕ) (room : ℕ) → Refuses pooling_refuses (pooling older newer room)
pool_refusals = pooling_refuses_lem

-- ---- the record that a caller sees
seen_record : {A : Type 0} (numbers : List ℕ) (answer : Result A Refusal) → RefusesWith numbers answer → RecordSeen (refusal_answered answer)
seen_record numbers (Ok value) n = record { at_fault = λ q. omega arith; otherwise = λ a b. refl }
seen_record numbers (Err why) n = record { at_fault = n.carried.at_fault; otherwise = n.carried.otherwise }

pub read_record : (file : List ℕ) → RecordSeen (read_answer (file_answer (reading file))).refusal
read_record file = by (file_answer (reading file)) (read_refusals file) where
  by : (x : Result (Parameters × ℕ) Refusal) → RefusesWith reading_refuses x → RecordSeen (read_answer x).refusal
  by (Err why) n = seen_record {A = ℕ} reading_refuses (Err why) n
  by (Ok found) n = seen_record {A = ℕ} reading_refuses (Ok 0) tt

pub train_record : (file a : List ℕ) (g : List ℤ) (before : TrainNumbers) → RecordSeen (train_seen (train_file file a g) before).refusal
train_record file a g before = seen_record training_refuses (train_file file a g).answer (train_refusals file a g)

pub certify_record : (file a : List ℕ) (before : Thresholds) → RecordSeen (certify_seen (certifying file a) before).refusal
certify_record file a before = seen_record certifying_refuses (certifying file a) (certify_refusals file a)

pub classify_record : (file a : List ℕ) (word : List ℤ) (before : ℕ) → RecordSeen (classify_seen (classifying file a word) before).refusal
classify_record file a word before = seen_record classifying_refuses (classifying file a word) (classify_refusals file a word)

-- of every call that writes a file
written_record : (numbers : List ℕ) (w : Writing) (length : ℕ) (output : List ℕ) → Refuses numbers w → RecordSeen (write_seen w length output).refusal
written_record numbers (written.refused why) length output n = seen_record {A = ℕ} numbers (Err why) n
written_record numbers (written.wrote file) length output n = seen_record {A = ℕ} numbers (Ok 0) tt

pub write_record : (q : ParameterNumbers) (rows : List (List ℤ)) (room length : ℕ) (output : List ℕ)
    → RecordSeen (write_seen (write_numbers q rows room) length output).refusal
write_record q rows room length output = written_record writing_refuses (write_numbers q rows room) length output (write_refusals q rows room)

pub import_record : (q : ParameterNumbers) (text : List ℕ) (room length : ℕ) (output : List ℕ)
    → RecordSeen (write_seen (import_numbers q text room) length output).refusal
import_record q text room length output = written_record importing_refuses (import_numbers q text room) length output (import_refusals q text room)

pub pool_record : (older newer : List ℕ) (room length : ℕ) (output : List ℕ) → RecordSeen (write_seen (pooling older newer room) length output).refusal
pool_record older newer room length output = written_record pooling_refuses (pooling older newer room) length output (pool_refusals older newer room)
