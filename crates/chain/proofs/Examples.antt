-- Chains that end and chains that break, as the definition computes them. Assumes nothing.
use mathlib.Core.Path.{◌≡◌, refl}
use mathlib.Core.Bool.{cond}
use mathlib.Core.List.{[], ◌∷◌}
use Prim.Native.Nat.{◌-◌}
use lib.Dec.{eqb}
use lib.ListN.{get_or}
use Rattle.chain.specs.Walk.{broken, ends, records_met}
use Rattle.chain.specs.Chain.{chain}

-- document 01's three records: first 3, whose next is 1; record 1 ends the chain; record 2 is spare, and its next number does not count
three_records : chain (λ r. get_or (0 ∷ 0 ∷ 9 ∷ 1 ∷ []) r 0) 3 3 ≡ ends (3 ∷ 1 ∷ [])
unfolding records_met
three_records = refl

-- a record that is its own next
own_next : chain (λ r. r) 256 7 ≡ broken 16 7
unfolding records_met
own_next = refl

-- 2, 4, 1, 3 and back to 4: record 3 is at fault
tail_into_a_cycle : chain (λ r. get_or (0 ∷ 3 ∷ 4 ∷ 4 ∷ 1 ∷ []) r 0) 4 2 ≡ broken 16 3
unfolding records_met
tail_into_a_cycle = refl

-- 1, 2 and, by a next number of exactly m, record 3, whose own next number is m + 1
next_over : chain (λ r. get_or (0 ∷ 2 ∷ 3 ∷ 4 ∷ []) r 0) 3 1 ≡ broken 3 3
unfolding records_met
next_over = refl

-- 256 records, each followed by the one before it, where the last is followed by the first
all_records : chain (λ r. cond (eqb r 1) 256 (r - 1)) 256 256 ≡ broken 16 1
unfolding records_met
all_records = refl
