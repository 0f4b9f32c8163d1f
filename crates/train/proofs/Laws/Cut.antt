-- Why the program need not read a long input to its end: the listing of a file is that of its first 5,153 bytes. A file that is accepted
-- has at most 32 + 20 × 256 bytes, so one that is cut is refused with 1 for its length, before and after the cut. Assumes nothing.
use mathlib.Core.Path.{◌≡◌, refl, sym, ◌∙◌, ap}
use mathlib.Core.Bool.{Bool, true, false}
use mathlib.Core.List.{List}
use Prim.Native.Nat.{ℕ, ◌≤◌}
use native.Mathlib.Decide.{dec_le}
use native.Mathlib.Omega.{arith}
use lib.ListN.{length, take}
use lib.Seq.{length-take-le, take_all}
use Rattle.training_file.specs.declared.refusal.Refusal.TheVariants.{FileLength}
use Rattle.training_file.specs.Header.{length_allowed}
use Rattle.training_file.proofs.Laws.Header.{allowed_whole}
use Rattle.reading.specs.Reading.{reading, refused}
use Rattle.reading.proofs.Laws.Reading.{reads_1}
use Rattle.listing.specs.Listing.{listing_of}
use Rattle.train.specs.Cut.{SameWhenCut}

-- a place more than the longest file that is accepted
abbrev enough : ℕ
enough = 5153

long_refused : (file : List ℕ) → enough ≤ length file → reading file ≡ refused FileLength
long_refused file h = by (length_allowed file) refl
  where
    by : (b : Bool) → length_allowed file ≡ b → reading file ≡ refused FileLength
    by false e = reads_1 file e
    by true e = let held = allowed_whole file e in absurd (omega arith)

pub cut_same : (places : ℕ) → enough ≤ places → SameWhenCut places
cut_same places l = record { same = λ file. by file (dec_le (length file) places) }
  where
    by : (file : List ℕ) → Dec (length file ≤ places) → listing_of (reading (take places file)) ≡ listing_of (reading file)
    by file (yes h) = ap (λ f. listing_of (reading f)) (take_all places file h)
    by file (no h) = ap listing_of (long_refused (take places file) (omega (arith, length-take-le places file (omega arith))) ∙ sym (long_refused file (omega arith)))
