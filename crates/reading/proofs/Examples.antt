-- Files read by the main definition, as it computes: the training program's example of document 01, and the same with one
-- fault each. Assumes nothing.
use mathlib.Core.Path.{◌≡◌, refl}
use mathlib.Core.List.{List, [], ◌∷◌, ◌++◌, map}
use Prim.Native.Nat.{ℕ}
use lib.IntN.{pos, negsuc}
use lib.ListN.{replicate, set, take}
use Rattle.integers.specs.Places.{all}
use Rattle.training_file.specs.declared.parameters.Kernel.TheVariants.{Linear}
use Rattle.training_file.specs.declared.item.Label.TheVariants.{LookedUp, PassedOver}
use Rattle.training_file.specs.Parameters.{parameters_allowed}
use Rattle.training_file.specs.Item.{features_allowed, labelled}
use Rattle.training_file.specs.declared.refusal.Refusal.TheVariants as refusal
use Rattle.training_file.specs.Record.{record_allowed, every}
use Rattle.training_file.specs.Header.{header_allowed, length_allowed}
use Rattle.chain.specs.Walk.{records_met}
use Rattle.reading.specs.Reading.{Reading, accepted, reading, refused}

-- "three records, first 3, record 3 (+, feature 1) with next 1, record 1 (−, feature −1) with next 0, record 2 spare, d 1,
-- linear, S 10, c 100, t 0, budget 50"; the spare record holds bytes that a record on the chain may not
abbrev header : List ℕ
header =
    (3 ∷ 0 ∷ 3 ∷ 0 ∷ 1 ∷ 0 ∷ 0 ∷ 0 ∷ [])
    ++ (10 ∷ 0 ∷ 0 ∷ 0 ∷ 100 ∷ 0 ∷ 0 ∷ 0 ∷ [])
    ++ replicate 8 0
    ++ (50 ∷ 0 ∷ 0 ∷ 0 ∷ 0 ∷ 0 ∷ 0 ∷ 0 ∷ [])

abbrev pub sample : List ℕ
sample =
    header
    ++ (0 ∷ 0 ∷ 2 ∷ 0 ∷ 255 ∷ replicate 15 0)
    ++ (200 ∷ 0 ∷ 7 ∷ 1 ∷ replicate 16 200)
    ++ (1 ∷ 0 ∷ 1 ∷ 0 ∷ 1 ∷ replicate 15 0)

-- what it is read as, with the ceiling for label −1 as the header has it
abbrev sample_read : ℕ → Reading
sample_read second_ceiling =
    accepted (record { used = 1; kernel = Linear; grid = 10; ceiling = 100; second_ceiling = second_ceiling; tolerance = 0; budget = 50 }) (3 ∷ 1 ∷ [])
    (record { label = LookedUp; features = pos 1 ∷ replicate 15 (pos 0) } ∷ record { label = PassedOver; features = negsuc 0 ∷ replicate 15 (pos 0) } ∷ [])

-- as it stands, with a ceiling for label −1 of 100, which is c, and with the highest one
pub sample_read_lem : map reading (sample ∷ set sample 28 100 ∷ set sample 30 1 ∷ []) ≡ map sample_read (0 ∷ 100 ∷ 65536 ∷ [])
unfolding reading length_allowed header_allowed parameters_allowed records_met every record_allowed features_allowed all labelled
sample_read_lem = refl

-- cut to 31 bytes; first record 4; a ceiling for label −1 of 65,537; record 3 its own next; record 1 leads back to 3; record 1 with the
-- next number 4, one over m; record 3 with 65,535; record 3 its own next and a wrong label; a wrong label; feature −128; one label only; an
-- empty chain
pub faults_refused :
    map reading
    (take 31 sample ∷ set sample 2 4 ∷ set (set sample 28 1) 30 1 ∷ set sample 72 3 ∷ set sample 32 3 ∷ set sample 32 4 ∷ set (set sample 72 255) 73 255
    ∷ set (set sample 72 3) 74 9 ∷ set sample 74 9 ∷ set sample 76 128 ∷ set sample 34 1 ∷ set sample 2 0 ∷ [])
    ≡ map refused
    (refusal.FileLength ∷ refusal.Header ∷ refusal.Header ∷ refusal.NextMet 3 ∷ refusal.NextMet 1 ∷ refusal.NextOver 1 ∷ refusal.NextOver 3
    ∷ refusal.NextMet 3 ∷ refusal.Record ∷ refusal.Record ∷ refusal.Labels ∷ refusal.Labels ∷ [])
unfolding reading length_allowed header_allowed parameters_allowed records_met every record_allowed features_allowed all labelled
faults_refused = refl
