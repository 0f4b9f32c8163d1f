-- Document 01's example of three records and P9, from the bytes of their files by the definitions; how item lines read back; refusals and
-- numbers. Assumes nothing.
use mathlib.Core.Path.{◌≡◌, refl}
use mathlib.Core.List.{List, [], ◌∷◌, ◌++◌}
use Prim.Native.Nat.{ℕ}
use lib.IntN.{negsuc}
use Rattle.integers.specs.Sum.{sum}
use Rattle.integers.specs.Extremum.{extreme, first}
use Rattle.integers.specs.Places.{all}
use Rattle.training_file.specs.declared.refusal.Refusal.TheVariants.{NextMet, Record}
use Rattle.training_file.specs.Parameters.{parameters_allowed}
use Rattle.training_file.specs.Item.{features_allowed, labelled}
use Rattle.training_file.specs.Record.{record_allowed, every}
use Rattle.training_file.specs.Header.{header_allowed, length_allowed}
use Rattle.chain.specs.Walk.{records_met}
use Rattle.reading.specs.Reading.{reading, refused}
use Rattle.reading.proofs.Examples.{sample}
use Rattle.dual_problem.specs.Problem.{gradient, double_sum, objective}
use Rattle.working_pair.specs.Step.{amount, first_candidate, working_pair}
use Rattle.smo.specs.Run.{run, turn}
use Rattle.lookahead.specs.Settled.{three}
use Rattle.text.specs.Decimal.{digits, decimal, signed_decimal, value}
use Rattle.text.specs.Parts.{before, parts}
use Rattle.totals.specs.Totals.{count_above_zero, sum_over}
use Rattle.lines.specs.Lines.{item_line, joined, result_line, total_line}
use Rattle.lines.specs.Sheet.{count_read, sum_read}
use Rattle.listing.specs.Listing.{listing, listing_of}

-- the example of three records: `converged 1 0 0`, `3 + 5`, `1 - 5` and, of document 02, request (l), `total 2 5 5`
three_records : listing_of (reading sample)
    ≡ (99 ∷ 111 ∷ 110 ∷ 118 ∷ 101 ∷ 114 ∷ 103 ∷ 101 ∷ 100 ∷ 32 ∷ 49 ∷ 32 ∷ 48 ∷ 32 ∷ 48 ∷ 10 ∷ [])
    ++ ((51 ∷ 32 ∷ 43 ∷ 32 ∷ 53 ∷ 10 ∷ []) ++ ((49 ∷ 32 ∷ 45 ∷ 32 ∷ 53 ∷ 10 ∷ []) ++ (116 ∷ 111 ∷ 116 ∷ 97 ∷ 108 ∷ 32 ∷ 50 ∷ 32 ∷ 53 ∷ 32 ∷ 53 ∷ 10 ∷ [])))
unfolding
    reading length_allowed header_allowed parameters_allowed records_met every record_allowed features_allowed labelled sum extreme first all gradient double_sum objective amount first_candidate working_pair turn run digits decimal signed_decimal count_above_zero sum_over result_line item_line total_line joined listing listing_of
three_records = refl

-- P9, with a multiplier of 0, which isn't counted: `converged 1 1 1`, `1 + 2`, `2 - 0`, `3 - 2`, `total 2 2 2`
p9_listing : listing_of (reading three)
    ≡ (99 ∷ 111 ∷ 110 ∷ 118 ∷ 101 ∷ 114 ∷ 103 ∷ 101 ∷ 100 ∷ 32 ∷ 49 ∷ 32 ∷ 49 ∷ 32 ∷ 49 ∷ 10 ∷ [])
    ++ ((49 ∷ 32 ∷ 43 ∷ 32 ∷ 50 ∷ 10 ∷ []) ++ ((50 ∷ 32 ∷ 45 ∷ 32 ∷ 48 ∷ 10 ∷ []) ++ ((51 ∷ 32 ∷ 45 ∷ 32 ∷ 50 ∷ 10 ∷ []) ++ (116 ∷ 111 ∷ 116 ∷ 97 ∷ 108 ∷ 32 ∷ 50 ∷ 32 ∷ 50 ∷ 32 ∷ 50 ∷ 10 ∷ []))))
unfolding
    reading length_allowed header_allowed parameters_allowed records_met every record_allowed features_allowed labelled sum extreme first all gradient double_sum objective amount first_candidate working_pair turn run digits decimal signed_decimal count_above_zero sum_over result_line item_line total_line joined listing listing_of
p9_listing = refl

-- its item lines read back: two multipliers above 0, the sums 2 and 2
unfoldable p9_lines : List (List ℕ)
p9_lines = (49 ∷ 32 ∷ 43 ∷ 32 ∷ 50 ∷ []) ∷ (50 ∷ 32 ∷ 45 ∷ 32 ∷ 48 ∷ []) ∷ (51 ∷ 32 ∷ 45 ∷ 32 ∷ 50 ∷ []) ∷ []

p9_read : (count_read p9_lines ≡ 2) × (sum_read 43 p9_lines ≡ 2) × (sum_read 45 p9_lines ≡ 2)
unfolding value before parts count_read sum_read p9_lines
p9_read = (refl, refl, refl)

-- `refused 4`
a_refusal : listing_of (refused Record) ≡ 114 ∷ 101 ∷ 102 ∷ 117 ∷ 115 ∷ 101 ∷ 100 ∷ 32 ∷ 52 ∷ 10 ∷ []
unfolding digits decimal listing listing_of
a_refusal = refl

-- `refused 16 7`
a_broken_chain : listing_of (refused (NextMet 7)) ≡ 114 ∷ 101 ∷ 102 ∷ 117 ∷ 115 ∷ 101 ∷ 100 ∷ 32 ∷ 49 ∷ 54 ∷ 32 ∷ 55 ∷ 10 ∷ []
unfolding digits decimal listing listing_of
a_broken_chain = refl

-- `-1907` and `1000000`
negative : signed_decimal (negsuc 1906) ≡ 45 ∷ 49 ∷ 57 ∷ 48 ∷ 55 ∷ []
unfolding digits decimal signed_decimal
negative = refl

million : decimal 1000000 ≡ 49 ∷ 48 ∷ 48 ∷ 48 ∷ 48 ∷ 48 ∷ 48 ∷ []
unfolding digits decimal
million = refl
