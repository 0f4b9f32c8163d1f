-- Laws of the call that pools: what it comes to by the stage that decides it. Assumes nothing.
use mathlib.Core.Path.{◌≡◌, ◌∙◌, ap}
use mathlib.Core.Bool.{true, false}
use mathlib.Core.List.{List, ◌++◌}
use Prim.Native.Nat.{ℕ}
use lib.Dec.{eqb, leb}
use lib.ListN.{length}
use borrow.Author.Tests.{eqb-true}
use Rattle.integers.proofs.Laws.Truth.{&&_left}
use Rattle.training_file.specs.declared.refusal.Refusal.{Refusal}
use Rattle.training_file.specs.declared.parameters.Parameters.{Parameters}
use Rattle.training_file.specs.declared.item.Item.{Item}
use Rattle.training_file.specs.declared.refusal.Refusal.TheVariants as refusal
use Rattle.training_file.specs.Parameters.{records_most}
use Rattle.training_file.specs.Item.{both_labels}
use Rattle.reading.specs.Reading.{Reading, accepted, reading}
use Rattle.reading.specs.Reading as reader
use Rattle.reading.specs.Calls.{file_first}
use Rattle.written_file.specs.File.{file_of}
use Rattle.written_file.specs.Output.{Writing, file_fits, refused, unless, wrote}
use Rattle.last_items.specs.Last.{last_only}
use Rattle.pooling.specs.Pooling.{alike, pool_items, pooling, write_left}

-- ---- what is left of both files

pub left_all : (room : ℕ) (p : Parameters) (left : List Item) → both_labels left ≡ true → leb (length left) records_most ≡ true
    → file_fits (length left) room ≡ true → write_left room p left ≡ wrote (file_of p left)
left_all room p left labels most e = rw (labels, most, e)

-- ---- both files

pub alike_used : (p q : Parameters) → alike p q ≡ true → p.used ≡ q.used
alike_used p q c = eqb-true p.used q.used (&&_left (eqb p.used q.used) _ c)

-- the call by what is read of both files
abbrev by_readings : (room : ℕ) → (older newer : Reading) → Writing
by_readings room older newer = file_first refused (λ p order items. file_first refused (λ q others more. pool_items room p items q more) newer) older

module _ (older newer : List ℕ) (room : ℕ) where
  pub pools_older : (why : Refusal) → reading older ≡ reader.refused why → pooling older newer room ≡ refused why
  unfolding pooling
  pools_older why e = ap (λ read. by_readings room read (reading newer)) e

  module _ (p : Parameters) (order : List ℕ) (items : List Item) (a : reading older ≡ accepted p order items) where
    pub pools_newer : (why : Refusal) → reading newer ≡ reader.refused why → pooling older newer room ≡ refused why
    unfolding pooling
    pools_newer why e = λ j. by_readings room (a j) (e j)

    module _ (q : Parameters) (others : List ℕ) (more : List Item) (b : reading newer ≡ accepted q others more) where
      pub pools_items : pooling older newer room ≡ pool_items room p items q more
      unfolding pooling
      pools_items = λ j. by_readings room (a j) (b j)

      pub pools_14 : alike p q ≡ false → pooling older newer room ≡ refused refusal.Unlike
      pools_14 e = pools_items ∙ (λ j. unless refusal.Unlike (e j) (write_left room q (last_only q.used (items ++ more))))

      module _ (c : alike p q ≡ true) (left : List Item) (l : last_only q.used (items ++ more) ≡ left) where
        pub pools_left : pooling older newer room ≡ write_left room q left
        pools_left = pools_items ∙ (λ j. unless refusal.Unlike (c j) (write_left room q (l j)))
