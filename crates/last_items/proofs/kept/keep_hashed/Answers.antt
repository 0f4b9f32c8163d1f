-- `last_items::kept::keep_hashed` meets its contract. Assumes nothing.
use mathlib.Core.Path.{◌≡◌, refl, sym, ◌∙◌, ap, ap₂, subst}
use mathlib.Core.Bool.{Bool, ◌||◌, not}
use mathlib.Core.List.{List}
use Prim.Native.Nat.{ℕ, ◌+◌, ◌-◌, ◌≤◌, ◌<◌}
use native.Mathlib.Omega.{arith}
use lib.ListN.{length, get_or, take, drop, length-drop}
use Rattle.std.proofs.lemmas.List.{drop-map, get_or-map}
use Rattle.training_file.specs.Layout.{feature_count}
use Rattle.training_file.specs.Parameters.{records_most}
use Rattle.training_file.specs.Record.{Stored, item_at}
use Rattle.last_items.specs.Last.{repeated}
use Rattle.last_items.specs.Kept.{AllStored, hash_at, hashes_at, items_at, stays_at}
use Rattle.last_items.specs.Records.{items_of}
use Rattle.last_items.proofs.Laws.Kept.{Keeping, keeping_all, keeping_less, keeping_more, keeping_number, keeping_rest, part_from, stays_is, stored-drop}
use Rattle.last_items.proofs.kept.keep_hashed.Goals as goal
use Rattle.last_items.proofs.kept.keep_hashed.Goals.{then-repeats, else-repeats, then-not-repeated, else-not-repeated}

-- a turn of the loop: its number and all after it stand where they stood, and the hashes are theirs
module _ (file later_file later before numbers : List ℕ) (kept k : ℕ) (so : Keeping file (items_at later_file later) before numbers kept k) where
  number_is : get_or numbers k 0 ≡ get_or before k 0
  number_is = keeping_number _ _ before numbers _ k so

  abbrev rest : List ℕ
  rest = take (length numbers - (k + 1)) (drop (k + 1) numbers)

  rest_is : rest ≡ drop (k + 1) before
  rest_is = part_from _ (k + 1) ∙ keeping_rest _ _ before numbers _ k so

  module _ (stored : AllStored file before) (inside : k < length before) where
    number_stored : Stored file (get_or numbers k 0)
    number_stored = subst (Stored file) (sym number_is) (stored k inside)

    rest_stored : AllStored file rest
    rest_stored = subst (AllStored file) (sym rest_is) (stored-drop file before (k + 1) stored)

  rest_few : length before ≤ records_most → length rest ≤ records_most
  rest_few few = omega (arith, so.places, ap length rest_is, length-drop (k + 1) before)

  module _ (hashes : List ℕ) (hashed : hashes ≡ hashes_at file before) (inside : k < length before) where
    hash_is : get_or hashes k 0 ≡ hash_at file (get_or numbers k 0)
    hash_is = ap (λ (l : List ℕ). get_or l k 0) hashed ∙ get_or-map (hash_at file) before k 0 0 inside ∙ ap (hash_at file) (sym number_is)

    rest_hashed : take (length hashes - (k + 1)) (drop (k + 1) hashes) ≡ hashes_at file rest
    rest_hashed = part_from hashes (k + 1) ∙ ap (drop (k + 1)) hashed ∙ drop-map (hash_at file) (k + 1) before ∙ ap (hashes_at file) (sym rest_is)

  -- whether the record stays
  stays : {own other : Bool}
      → own ≡ repeated feature_count (item_at file (get_or numbers k 0)) (items_at file rest)
      → other ≡ repeated feature_count (item_at file (get_or numbers k 0)) (items_at later_file later)
      → not (own || other) ≡ stays_at file (items_at later_file later) (get_or before k 0) (drop (k + 1) before)
  stays own other = stays_is file later_file later (get_or numbers k 0) rest own other ∙ ap₂ (stays_at file (items_at later_file later)) number_is rest_is

pub invariant_of-rest : goal.invariant_of-rest
invariant_of-rest c =
    let so = c.loop-k.invariant in
    record {
      bytes = λ i. let small = c.type_inv.file i in omega arith;
      few = rest_few _ _ _ _ _ _ _ so c.requires.stored.few;
      stored = rest_stored _ _ _ _ _ _ _ so c.requires.stored.stored (omega (arith, so.places));
    }

pub invariant_of-rest-in-loop-k : goal.invariant_of-rest-in-loop-k
invariant_of-rest-in-loop-k c =
    let so = c.loop-k.invariant in
    record { hashed = rest_hashed _ _ _ _ _ _ _ so _ c.requires.hashed (omega (arith, so.places)) }

pub repeats-requires-clause-stored : goal.repeats-requires-clause-stored
repeats-requires-clause-stored c =
    let so = c.loop-k.invariant in number_stored _ _ _ _ _ _ _ so c.requires.stored.stored (omega (arith, so.places))

pub repeats-requires-clause-hashed : goal.repeats-requires-clause-hashed
repeats-requires-clause-hashed c =
    let so = c.loop-k.invariant in hash_is _ _ _ _ _ _ _ so _ c.requires.hashed (omega (arith, so.places))

pub repeats-repeated-requires-clause-stored : goal.repeats-repeated-requires-clause-stored
repeats-repeated-requires-clause-stored c =
    let so = c.loop-k.invariant in number_stored _ _ _ _ _ _ _ so c.requires.stored.stored (omega (arith, so.places))

pub repeats-repeated-requires-clause-hashed : goal.repeats-repeated-requires-clause-hashed
repeats-repeated-requires-clause-hashed c =
    let so = c.loop-k.invariant in hash_is _ _ _ _ _ _ _ so _ c.requires.hashed (omega (arith, so.places))

pub loop-k-preserved : goal.loop-k-preserved
loop-k-preserved c =
    let so = c.loop-k.invariant in
    let inside : c.loop-k.k < length c.args.numbers.now = c.loop-k-test.true in
    let later = c.args.later.now.records in
    let judged : not c.if-repeats.repeated ≡ stays_at c.args.file.now (items_of later) (get_or c.args.numbers.now c.loop-k.k 0) (drop (c.loop-k.k + 1) c.args.numbers.now)
    = elim c.if-repeats.branch [
      | then-repeats w ↦ ap not (w.repeated-is ∙ w.if-repeats.true) ∙ stays _ _ _ _ _ _ _ so (sym w.if-repeats.true ∙ c.repeats.ensures) refl
      | else-repeats w ↦ ap not w.repeated-is ∙ stays _ _ _ _ _ _ _ so (sym w.if-repeats.false ∙ c.repeats.ensures) w.repeats-repeated.ensures
    ] in
    elim c.if-not-repeated.branch [
      | then-not-repeated w ↦ rw w.kept-is (keeping_more _ _ _ _ _ _ so inside (sym judged ∙ ap not w.if-not-repeated.true))
      | else-not-repeated w ↦ rw w.kept-is (keeping_less _ _ _ _ _ _ so inside (sym judged ∙ ap not w.if-not-repeated.false))
    ]

pub returns : goal.returns
returns c = keeping_all _ _ _ _ _ _ c.loop-k.invariant (omega (arith, c.loop-k.invariant.places))
