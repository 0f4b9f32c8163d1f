-- Document 01, "Settled examples": P1 to P12 as one table of inputs and results, and one theorem, by the definitions that the
-- contracts of the public calls cite. E1 to E3, K1 to K4, F1 to F6, I1 to I7, B1 to B7 and C1 to C7 are our own, for requests (e), (k),
-- (f), (i), (b) and (c) of document 02. Assumes nothing.
use Rattle.std.specs.Prelude.{◌≡◌, refl, Bool, false, ℕ, ℤ, pos, negsuc, length, replicate, Result, Ok, Err}
use mathlib.Core.List.{List, [], ◌∷◌, ◌++◌, flatten}
use Rattle.std.proofs.Math.Option.{Option, none, some}
use Rattle.integers.specs.Sum.{sum}
use Rattle.integers.specs.Extremum.{extreme, first}
use Rattle.integers.specs.Places.{all}
use Rattle.integers.specs.Tabulate.{tabulate}
use Rattle.integers.specs.Written.{written}
use Rattle.training_file.specs.declared.refusal.Refusal.{Refusal}
use Rattle.training_file.specs.declared.refusal.Refusal.TheVariants as refusal
use Rattle.training_file.specs.declared.parameters.Kernel.TheVariants.{Linear, Overlap}
use Rattle.training_file.specs.declared.parameters.Parameters.{Parameters}
use Rattle.training_file.specs.Refusal.{refusal_at}
use Rattle.training_file.specs.Parameters.{parameters_allowed}
use Rattle.training_file.specs.Item.{features_allowed, labelled}
use Rattle.training_file.specs.Record.{record_allowed, every}
use Rattle.training_file.specs.Header.{header_allowed, length_allowed}
use Rattle.chain.specs.Walk.{records_met}
use Rattle.reading.specs.Reading.{Reading, refused, accepted, reading}
use Rattle.dual_problem.specs.Problem.{Problem, problem, gradient, double_sum, objective, at}
use Rattle.thresholds.specs.declared.extremes.Thresholds.{Thresholds}
use Rattle.certifying.specs.Certify.{certifying}
use Rattle.working_pair.specs.Step.{amount, first_candidate, i_low, i_up, moves, working_pair}
use Rattle.smo.specs.declared.ending.Ending.{Ending}
use Rattle.smo.specs.declared.ending.Ending.TheVariants.{Converged, Stuck, Spent}
use Rattle.smo.specs.Run.{run, turn}
use Rattle.training.specs.Train.{TrainingLeft, train_file, unchanged}
use Rattle.classifying.specs.declared.classify.Class.{Class}
use Rattle.classifying.specs.declared.classify.Class.TheVariants.{LookedUp, PassedOver, Undecided}
use Rattle.classifying.specs.Classify.{classifying, score, score_with}
use Rattle.written_file.specs.File.{records_to}
use Rattle.written_file.specs.Output.{Writing, wrote, refused as not_written}
use Rattle.writing.specs.Writing.{writing}
use Rattle.text.specs.Decimal as decimal
use Rattle.libsvm_text.specs.Form.{numeral}
use Rattle.libsvm_text.specs.Items.{feature_in}
use Rattle.libsvm_text.specs.Lines.{last_of, lines_from, step}
use Rattle.importing.specs.Importing.{importing}

-- ---- the files, byte for byte: d 1; kernel, S, c, t, budget (each below 256); records chained in their order, by label and feature byte.
-- Of the ceiling for label −1, two bytes that are not always 0
abbrev header_with : (m kernel S c t budget second second₂ : ℕ) → List ℕ
header_with m kernel S c t budget second second₂ =
    (m ∷ 0 ∷ 1 ∷ 0 ∷ 1 ∷ kernel ∷ 0 ∷ 0 ∷ S ∷ 0 ∷ 0 ∷ 0 ∷ c ∷ 0 ∷ 0 ∷ 0 ∷ [])
    ++ (t ∷ 0 ∷ 0 ∷ 0 ∷ 0 ∷ 0 ∷ 0 ∷ 0 ∷ budget ∷ 0 ∷ 0 ∷ 0 ∷ second ∷ 0 ∷ second₂ ∷ 0 ∷ [])

abbrev header : (m kernel S c t budget : ℕ) → List ℕ
header m kernel S c t budget = header_with m kernel S c t budget 0 0

abbrev stored : (next label feature : ℕ) → List ℕ
stored next label feature = next ∷ 0 ∷ label ∷ 0 ∷ feature ∷ replicate 15 0

-- "±1 file": item + with feature 1, item − with feature −1, whose byte is 255
abbrev plus_minus : (kernel S c t budget : ℕ) → List ℕ
plus_minus kernel S c t budget = header 2 kernel S c t budget ++ stored 2 1 1 ++ stored 0 2 255

abbrev both_one : (kernel : ℕ) → List ℕ
both_one kernel = header 2 kernel 10 7 0 50 ++ stored 2 1 1 ++ stored 0 2 1

abbrev pub three : List ℕ
three = header 3 0 1 2 0 50 ++ stored 2 1 10 ++ stored 3 2 246 ++ stored 0 2 10

-- item + with feature 1, item − with feature 0: with multipliers 1 1 the thresholds are 1 and 0, and scores are odd
abbrev uneven : List ℕ
uneven = header 2 0 1 10 0 50 ++ stored 2 1 1 ++ stored 0 2 0

-- the ±1 file of P1 with other next numbers, of record 1 and of record 2
abbrev linked : (next₁ next₂ : ℕ) → List ℕ
linked next₁ next₂ = header 2 0 10 100 0 50 ++ stored next₁ 1 1 ++ stored next₂ 2 255

-- P9's three items, where the last leads back to the second, and the first has a wrong label
abbrev tail_into_cycle : List ℕ
tail_into_cycle = header 3 0 1 2 0 50 ++ stored 2 9 10 ++ stored 3 2 246 ++ stored 2 2 10

-- the ±1 file with S 10 and two ceilings, and a third item like the second
abbrev ceilings : (c second second₂ : ℕ) → List ℕ
ceilings c second second₂ = header_with 2 0 10 c 0 50 second second₂ ++ stored 2 1 1 ++ stored 0 2 255

abbrev one_against_two : (c second : ℕ) → List ℕ
one_against_two c second = header_with 3 0 10 c 0 50 second 0 ++ stored 2 1 1 ++ stored 3 2 255 ++ stored 0 2 255

-- kernel 2: item + with feature 127, raised to 254, item − with feature −127, whose byte is 129, raised to 0
abbrev both_ends : List ℕ
both_ends = header 2 2 127 100 0 50 ++ stored 2 1 127 ++ stored 0 2 129

-- ---- what is written: the parameters of the ±1 file of P1 with an S, and with every field at its greatest
abbrev parameters_with : (S : ℕ) → Parameters
parameters_with S = record { used = 1; kernel = Linear; grid = S; ceiling = 100; second_ceiling = 0; tolerance = 0; budget = 50 }

abbrev greatest : Parameters
greatest =
    record { used = 16; kernel = Overlap; grid = 1048576; ceiling = 65536; second_ceiling = 65536; tolerance = 1000000000000; budget = 1000000 }

-- an item in memory: sixteen features, the first and fifteen times another, then the label's number
abbrev row_of : (feature others label : ℤ) → List ℤ
row_of feature others label = feature ∷ replicate 15 others ++ (label ∷ [])

abbrev row : (feature label : ℤ) → List ℤ
row feature label = row_of feature (pos 0) label

-- an item whose second feature is not 0, although one is in use
abbrev past_used : List ℤ
past_used = pos 1 ∷ pos 1 ∷ replicate 14 (pos 0) ++ (pos 1 ∷ [])

-- the items of the ±1 file, and the file of them with P1's parameters
abbrev plus_minus_items : List (List ℤ)
plus_minus_items = row (pos 1) (pos 1) ∷ row (negsuc 0) (pos 2) ∷ []

abbrev plus_minus_file : List ℕ
plus_minus_file =
    (2 ∷ 0 ∷ 1 ∷ 0 ∷ 1 ∷ 0 ∷ 0 ∷ 0 ∷ 10 ∷ 0 ∷ 0 ∷ 0 ∷ 100 ∷ 0 ∷ 0 ∷ 0 ∷ [])
    ++ (0 ∷ 0 ∷ 0 ∷ 0 ∷ 0 ∷ 0 ∷ 0 ∷ 0 ∷ 50 ∷ 0 ∷ 0 ∷ 0 ∷ 0 ∷ 0 ∷ 0 ∷ 0 ∷ [])
    ++ (2 ∷ 0 ∷ 1 ∷ 0 ∷ 1 ∷ 0 ∷ 0 ∷ 0 ∷ 0 ∷ 0 ∷ 0 ∷ 0 ∷ 0 ∷ 0 ∷ 0 ∷ 0 ∷ 0 ∷ 0 ∷ 0 ∷ 0 ∷ [])
    ++ (0 ∷ 0 ∷ 2 ∷ 0 ∷ 255 ∷ 0 ∷ 0 ∷ 0 ∷ 0 ∷ 0 ∷ 0 ∷ 0 ∷ 0 ∷ 0 ∷ 0 ∷ 0 ∷ 0 ∷ 0 ∷ 0 ∷ 0 ∷ [])

-- two items with features at both ends of their range, and the file of them with the greatest parameters
abbrev end_items : List (List ℤ)
end_items = row_of (pos 127) (negsuc 126) (pos 1) ∷ row_of (negsuc 126) (negsuc 126) (pos 2) ∷ []

abbrev greatest_file : List ℕ
greatest_file =
    (2 ∷ 0 ∷ 1 ∷ 0 ∷ 16 ∷ 2 ∷ 0 ∷ 0 ∷ 0 ∷ 0 ∷ 16 ∷ 0 ∷ 0 ∷ 0 ∷ 1 ∷ 0 ∷ [])
    ++ (0 ∷ 16 ∷ 165 ∷ 212 ∷ 232 ∷ 0 ∷ 0 ∷ 0 ∷ 64 ∷ 66 ∷ 15 ∷ 0 ∷ 0 ∷ 0 ∷ 1 ∷ 0 ∷ [])
    ++ (2 ∷ 0 ∷ 1 ∷ 0 ∷ 127 ∷ replicate 15 129)
    ++ (0 ∷ 0 ∷ 2 ∷ 0 ∷ replicate 16 129)

-- ---- what is imported: two features in use
abbrev two_used : Parameters
two_used = record { used = 2; kernel = Linear; grid = 1000; ceiling = 500; second_ceiling = 0; tolerance = 10; budget = 100 }

-- the lines `+1 1:127` and `-1 1:-3 2:5`, and the file of them
abbrev two_lines : List ℕ
two_lines =
    (43 ∷ 49 ∷ 32 ∷ 49 ∷ 58 ∷ 49 ∷ 50 ∷ 55 ∷ 10 ∷ [])
    ++ (45 ∷ 49 ∷ 32 ∷ 49 ∷ 58 ∷ 45 ∷ 51 ∷ 32 ∷ 50 ∷ 58 ∷ 53 ∷ 10 ∷ [])

abbrev two_lines_file : List ℕ
two_lines_file =
    (2 ∷ 0 ∷ 1 ∷ 0 ∷ 2 ∷ 0 ∷ 0 ∷ 0 ∷ 232 ∷ 3 ∷ 0 ∷ 0 ∷ 244 ∷ 1 ∷ 0 ∷ 0 ∷ [])
    ++ (10 ∷ 0 ∷ 0 ∷ 0 ∷ 0 ∷ 0 ∷ 0 ∷ 0 ∷ 100 ∷ 0 ∷ 0 ∷ 0 ∷ 0 ∷ 0 ∷ 0 ∷ 0 ∷ [])
    ++ (2 ∷ 0 ∷ 1 ∷ 0 ∷ 127 ∷ 0 ∷ 0 ∷ 0 ∷ 0 ∷ 0 ∷ 0 ∷ 0 ∷ 0 ∷ 0 ∷ 0 ∷ 0 ∷ 0 ∷ 0 ∷ 0 ∷ 0 ∷ [])
    ++ (0 ∷ 0 ∷ 2 ∷ 0 ∷ 253 ∷ 5 ∷ 0 ∷ 0 ∷ 0 ∷ 0 ∷ 0 ∷ 0 ∷ 0 ∷ 0 ∷ 0 ∷ 0 ∷ 0 ∷ 0 ∷ 0 ∷ 0 ∷ [])

-- a line more, `-1 1:1`
abbrev and_minus : List ℕ → List ℕ
and_minus text = text ++ (45 ∷ 49 ∷ 32 ∷ 49 ∷ 58 ∷ 49 ∷ 10 ∷ [])

-- 256 lines `+1`, and a last one
abbrev many_lines : List ℕ → List ℕ
many_lines last = flatten (replicate 256 (43 ∷ 49 ∷ 10 ∷ [])) ++ last

-- ---- the cases
pub data Case : Type 0 where
  -- the file; ending, steps, b_low, b_up; the lent list of three 9s afterwards
  trains : List ℕ → Ending → ℕ → ℤ → ℤ → List ℕ → Case
  -- the file; the refusal, with which the lent lists are as they were
  refuses : List ℕ → Refusal → Case
  -- the file: at the start the pair tried first does not move
  first_pair_stays : List ℕ → Case
  -- the file, the multipliers; the answer
  certifies : List ℕ → List ℕ → Result Thresholds Refusal → Case
  -- the file, the multipliers, the word; the answer and the value
  classifies : List ℕ → List ℕ → List ℤ → Result Class Refusal → ℤ → Case
  -- the parameters, the items, the length of the output; the file or the refusal
  writes : Parameters → List (List ℤ) → ℕ → Writing → Case
  -- the parameters, the text, the length of the output; the file or the refusal
  imports : Parameters → List ℕ → ℕ → Writing → Case

abbrev trained : List ℕ → TrainingLeft
trained file = train_file file (replicate 3 9) (replicate 3 (pos 9))

-- whether the pair tried first moves, where training starts
abbrev pair_moves : Problem → Option ℕ → Option ℕ → Option Bool
pair_moves P (some i) (some j) = some (moves P (replicate P.count 0) i j)
pair_moves P (some i) none = none
pair_moves P none o = none

abbrev first_pair_moves : Reading → Option Bool
first_pair_moves (refused why) = none
first_pair_moves (accepted p order items) = let P = problem p items in pair_moves P (i_low P (replicate (length items) 0)) (i_up P (replicate (length items) 0))

abbrev value : Reading → List ℕ → List ℤ → ℤ
value (refused why) a word = pos 0
value (accepted p order items) a word = score p items (at a) word

abbrev pub Holds : Case → Type 0
Holds (trains file ending steps lower upper left) =
    ((trained file).answer ≡ Ok (record { ending = ending; steps = steps; lower = lower; upper = upper })) × ((trained file).multipliers ≡ left)
Holds (refuses file why) = trained file ≡ unchanged why (replicate 3 9) (replicate 3 (pos 9))
Holds (first_pair_stays file) = first_pair_moves (reading file) ≡ some false
Holds (certifies file a answer) = certifying file a ≡ answer
Holds (classifies file a word answer v) = (classifying file a word ≡ answer) × (value (reading file) a word ≡ v)
Holds (writes p items room answer) = writing p items room ≡ answer
Holds (imports p text room answer) = importing p text room ≡ answer

abbrev pub AllHold : List Case → Type 0
AllHold [] = Unit {0}
AllHold (c ∷ cs) = Holds c × AllHold cs

abbrev pub settled_examples : List Case
settled_examples =
    trains (plus_minus 0 10 100 0 50) Converged 1 (pos 0) (pos 0) (5 ∷ 5 ∷ 9 ∷ [])  -- P1
    ∷ trains (plus_minus 0 10 3 0 50) Converged 1 (negsuc 3) (pos 4) (3 ∷ 3 ∷ 9 ∷ [])  -- P2
    ∷ trains (plus_minus 0 1 10 0 50) Stuck 0 (pos 1) (negsuc 0) (0 ∷ 0 ∷ 9 ∷ [])  -- P3
    ∷ trains (plus_minus 0 1 10 1 50) Converged 0 (pos 1) (negsuc 0) (0 ∷ 0 ∷ 9 ∷ [])  -- P4
    ∷ trains (plus_minus 0 1 10 0 0) Stuck 0 (pos 1) (negsuc 0) (0 ∷ 0 ∷ 9 ∷ [])  -- P5
    ∷ trains (plus_minus 0 10 100 0 0) Spent 0 (pos 10) (negsuc 9) (0 ∷ 0 ∷ 9 ∷ [])  -- P6
    ∷ trains (both_one 0) Converged 1 (negsuc 9) (pos 10) (7 ∷ 7 ∷ 9 ∷ [])  -- P7
    ∷ trains (plus_minus 1 16 100 0 50) Converged 1 (pos 0) (pos 0) (4 ∷ 4 ∷ 9 ∷ [])  -- P8
    ∷ first_pair_stays three  -- P9
    ∷ trains three Converged 1 (pos 1) (pos 1) (2 ∷ 0 ∷ 2 ∷ [])
    ∷ certifies (plus_minus 0 10 100 0 50) (0 ∷ 0 ∷ []) (Ok (record { lower = pos 10; upper = negsuc 9 }))  -- P10
    ∷ certifies (plus_minus 0 10 100 0 50) (5 ∷ 4 ∷ []) (Err refusal.Balance)  -- P11
    ∷ certifies (plus_minus 0 10 100 0 50) (101 ∷ 100 ∷ []) (Err refusal.Multiplier)
    ∷ classifies (plus_minus 0 10 100 0 50) (5 ∷ 5 ∷ []) (pos 3 ∷ []) (Ok LookedUp) (pos 60)  -- P12
    ∷ classifies (plus_minus 0 10 100 0 50) (5 ∷ 5 ∷ []) (pos 0 ∷ []) (Ok Undecided) (pos 0)
    ∷ classifies (plus_minus 0 10 100 0 50) (0 ∷ 0 ∷ []) (pos 3 ∷ []) (Ok Undecided) (pos 0)  -- E1
    ∷ classifies uneven (1 ∷ 1 ∷ []) (pos 0 ∷ []) (Ok PassedOver) (negsuc 0)  -- E2
    ∷ classifies uneven (1 ∷ 1 ∷ []) (pos 1 ∷ []) (Ok LookedUp) (pos 1)  -- E3
    ∷ refuses (linked 2 1) (refusal_at 16 2)  -- K1
    ∷ refuses (linked 1 0) (refusal_at 16 1)  -- K2
    ∷ refuses (linked 2 3) (refusal_at 3 2)  -- K3
    ∷ refuses tail_into_cycle (refusal_at 16 3)  -- K4
    ∷ trains (ceilings 100 3 0) Converged 1 (negsuc 3) (negsuc 3) (3 ∷ 3 ∷ 9 ∷ [])  -- F1
    ∷ trains (ceilings 3 100 0) Converged 1 (pos 4) (pos 4) (3 ∷ 3 ∷ 9 ∷ [])  -- F2
    ∷ trains (ceilings 100 100 0) Converged 1 (pos 0) (pos 0) (5 ∷ 5 ∷ 9 ∷ [])  -- F3
    ∷ refuses (ceilings 100 1 1) refusal.Header  -- F4
    ∷ certifies (ceilings 100 3 0) (4 ∷ 4 ∷ []) (Err refusal.Multiplier)  -- F5
    ∷ certifies (ceilings 3 100 0) (4 ∷ 4 ∷ []) (Err refusal.Multiplier)
    ∷ trains (one_against_two 100 2) Converged 2 (negsuc 1) (negsuc 1) (4 ∷ 2 ∷ 2 ∷ [])  -- F6
    ∷ trains (plus_minus 2 10 100 0 50) Converged 1 (pos 10) (pos 10) (10 ∷ 10 ∷ 9 ∷ [])  -- I1
    ∷ trains both_ends Converged 1 (pos 127) (pos 127) (1 ∷ 1 ∷ 9 ∷ [])  -- I2
    ∷ trains (both_one 2) Converged 1 (negsuc 9) (pos 10) (7 ∷ 7 ∷ 9 ∷ [])  -- I3, where η is 0
    ∷ certifies (plus_minus 2 10 100 0 50) (5 ∷ 5 ∷ []) (Ok (record { lower = pos 10; upper = pos 0 }))  -- I4
    ∷ classifies (plus_minus 2 10 100 0 50) (10 ∷ 10 ∷ []) (pos 3 ∷ []) (Ok LookedUp) (pos 20)  -- I5
    ∷ classifies (plus_minus 2 10 100 0 50) (10 ∷ 10 ∷ []) (pos 0 ∷ []) (Ok Undecided) (pos 0)
    ∷ classifies both_ends (1 ∷ 1 ∷ []) (negsuc 126 ∷ []) (Ok PassedOver) (negsuc 253)  -- I6
    ∷ refuses (plus_minus 3 10 100 0 50) refusal.Header  -- I7
    ∷ writes (parameters_with 10) plus_minus_items 73 (wrote plus_minus_file)  -- B1
    ∷ writes greatest end_items 73 (wrote greatest_file)  -- B2
    ∷ writes (parameters_with 0) (row (pos 1) (pos 1) ∷ replicate 256 (row (negsuc 0) (pos 2))) 3 (not_written refusal.Header)  -- B3
    ∷ writes (parameters_with 10) (row (pos 1) (pos 3) ∷ replicate 256 (row (negsuc 0) (pos 2))) 3 (not_written refusal.FileLength)  -- B4
    ∷ writes (parameters_with 10) (row (pos 1) (negsuc 0) ∷ row (pos 1) (pos 1) ∷ []) 3 (not_written refusal.Record)  -- B5
    ∷ writes (parameters_with 10) (row (pos 1) (pos 1) ∷ row (negsuc 127) (pos 1) ∷ []) 3 (not_written refusal.Record)
    ∷ writes (parameters_with 10) (row (pos 1) (pos 1) ∷ past_used ∷ []) 3 (not_written refusal.Record)
    ∷ writes (parameters_with 10) (row (pos 1) (pos 1) ∷ row (negsuc 0) (pos 1) ∷ []) 3 (not_written refusal.Labels)  -- B6
    ∷ writes (parameters_with 10) [] 3 (not_written refusal.Labels)
    ∷ writes (parameters_with 10) plus_minus_items 71 (not_written refusal.Output)  -- B7
    ∷ imports two_used two_lines 73 (wrote two_lines_file)  -- C1
    ∷ imports two_used (and_minus (43 ∷ 49 ∷ 32 ∷ 49 ∷ 58 ∷ 49 ∷ 50 ∷ 56 ∷ 10 ∷ [])) 3 (not_written refusal.Record)  -- C2, `+1 1:128`
    ∷ imports two_used (and_minus (43 ∷ 49 ∷ 32 ∷ 49 ∷ 58 ∷ 48 ∷ 49 ∷ 50 ∷ 56 ∷ 10 ∷ [])) 3 (not_written refusal.Text)  -- C3, `+1 1:0128`
    ∷ imports two_used [] 3 (not_written refusal.Labels)  -- C4
    ∷ imports two_used (45 ∷ 49 ∷ 32 ∷ 49 ∷ 58 ∷ 45 ∷ 48 ∷ 10 ∷ 43 ∷ 49 ∷ 10 ∷ []) 3 (not_written refusal.Text)  -- C5, `-1 1:-0`, `+1`
    ∷ imports two_used (many_lines (45 ∷ 49 ∷ 10 ∷ [])) 3 (not_written refusal.Lines)  -- C6, the last `-1`
    ∷ imports two_used (many_lines (45 ∷ 49 ∷ 32 ∷ 10 ∷ [])) 3 (not_written refusal.Text)  -- C7, the last `-1 `
    ∷ []

pub settled : AllHold settled_examples
unfolding
    reading length_allowed header_allowed parameters_allowed records_met every record_allowed features_allowed labelled sum extreme first all written gradient double_sum objective amount first_candidate working_pair turn run score_with tabulate records_to writing flatten decimal.value numeral last_of step lines_from feature_in importing
settled = (
  (refl, refl),
  (
    (refl, refl),
    (
      (refl, refl),
      (
        (refl, refl),
        (
          (refl, refl),
          (
            (refl, refl),
            (
              (refl, refl),
              (
                (refl, refl),
                (
                  refl,
                  ((refl, refl), (refl, (refl, (refl, ((refl, refl), ((refl, refl), ((refl, refl), ((refl, refl), ((refl, refl), (refl, (refl, (refl, (refl, ((refl, refl), ((refl, refl), ((refl, refl), (refl, (refl, (refl, ((refl, refl), ((refl, refl), ((refl, refl), ((refl, refl), (refl, ((refl, refl), ((refl, refl), ((refl, refl), (refl, (refl, (refl, (refl, (refl, (refl, (refl, (refl, (refl, (refl, (refl, (refl, (refl, (refl, (refl, (refl, (refl, (refl, tt))))))))))))))))))))))))))))))))))))))))))))),
                ),
              ),
            ),
          ),
        ),
      ),
    ),
  ),
)
