-- What holds of every accepted file: the laws that the layers above rely on. Assumes nothing.
use mathlib.Core.Path.{◌≡◌, refl, sym, ap, subst, ◌∙◌}
use mathlib.Core.Bool.{true}
use mathlib.Core.List.{List, [], ◌∷◌, map}
use Prim.Native.Nat.{ℕ, zero, suc, ◌≤◌, ◌<◌}
use native.Mathlib.Nat.{le_of_suc-le-suc}
use native.Mathlib.Omega.{arith}
use lib.IntN.{pos, nat_abs}
use lib.ListN.{length, get_or, length-map}
use Rattle.training_file.specs.declared.parameters.Parameters.{Parameters}
use Rattle.training_file.specs.declared.item.Label.{Label}
use Rattle.training_file.specs.declared.item.Item.{Item}
use Rattle.training_file.specs.Layout.{first_record, next_of, records_stored}
use Rattle.training_file.specs.Parameters.{Ranges, records_most}
use Rattle.training_file.proofs.Laws.Parameters.{allowed_ranges}
use Rattle.training_file.specs.Item.{feature_most, features_allowed, item_in}
use Rattle.training_file.specs.Record.{Stored, features_at, item_at, record_allowed}
use Rattle.training_file.proofs.Laws.Item.{features_most, features_past, labels_at}
use Rattle.training_file.proofs.Laws.Record.{every_at, features_sixteen, record_features}
use Rattle.training_file.specs.Header.{parameters_of}
use Rattle.training_file.proofs.Laws.Header.{header_parameters}
use Rattle.chain.proofs.Laws.Chain.{chain_ends, chain_length}
use Rattle.chain.proofs.Laws.Answers.{order_stored}
use Rattle.reading.specs.Reading.{reading}
use Rattle.reading.specs.Calls.{Tabled, items_in}
use Rattle.reading.proofs.Laws.Reading.{AcceptedFile}
use Rattle.reading.proofs.Laws.Calls.{accepted_chained, accepted_order, counted_accepted}

get_d_map_in : (f : ℕ → Item) (rs : List ℕ) (k : ℕ) (d : Item) → k < length rs → get_or (map f rs) k d ≡ f (get_or rs k 0)
get_d_map_in f [] k d l = absurd (omega arith)
get_d_map_in f (r ∷ rs) zero d l = refl
get_d_map_in f (r ∷ rs) (suc k) d l = get_d_map_in f rs k d (le_of_suc-le-suc l)

-- ---- an accepted file

module _ (file : List ℕ) (p : Parameters) (rs : List ℕ) (items : List Item) (a : AcceptedFile file p rs items) where
  pub accepted_ranges : Ranges p
  accepted_ranges = subst Ranges (sym a.parameters_are) (allowed_ranges (parameters_of file) (header_parameters file a.header_is))

  -- there are as many items as record numbers
  pub items_counted : length items ≡ length rs
  items_counted = ap length a.items_are ∙ length-map rs (item_at file)

  -- each record number is that of a record that stands in the file
  pub numbers_stored : (k : ℕ) → k < length rs → Stored file (get_or rs k 0)
  numbers_stored k h =
      order_stored file (length rs) (accepted_chained file p rs items a) k (get_or rs k 0) h
      (ap (λ (order : List ℕ). get_or order k 0) (sym (accepted_order file p rs items a)))

  pub numbers_within : (k : ℕ) → k < length rs → (1 ≤ get_or rs k 0) × (get_or rs k 0 ≤ records_most)
  numbers_within k h = let s = numbers_stored k h in let f = (accepted_chained file p rs items a).file_whole in (omega arith, omega arith)

  -- the item at a place is that of the record there
  pub item_is : (k : ℕ) → k < length rs → item_in items k ≡ item_at file (get_or rs k 0)
  item_is k h = ap (λ (is : List Item). item_in is k) a.items_are ∙ get_d_map_in (item_at file) rs k _ h

  -- each label has an item
  pub label_at : (label : Label) → (k : ℕ) × (k < length items) × ((item_in items k).label ≡ label)
  label_at label = labels_at items a.labels_are label

  -- there are at most as many items as records
  pub items_most : length items ≤ records_most
  items_most =
      omega (
        arith,
        items_counted,
        (accepted_chained file p rs items a).file_whole.most,
        chain_length (next_of file) (records_stored file) (first_record file) rs ((chain_ends (next_of file) (records_stored file) (first_record file) rs).0 a.chain_is),
      )

  -- the features of each item
  module _ (k : ℕ) (h : k < length rs) where
    record_allowed_lem : features_allowed p.used (features_at file (get_or rs k 0)) ≡ true
    record_allowed_lem = record_features p.used file (get_or rs k 0) (every_at (record_allowed p.used file) 0 rs a.records_are k h)

    pub item_features_most : (i : ℕ) → nat_abs (get_or (item_in items k).features i (pos 0)) ≤ feature_most
    item_features_most i =
        rw (item_is k h) (features_most p.used (features_at file (get_or rs k 0)) record_allowed_lem (features_sixteen file (get_or rs k 0) (numbers_stored k h)) i)

    pub item_features_past : (i : ℕ) → p.used ≤ i → get_or (item_in items k).features i (pos 0) ≡ pos 0
    item_features_past i l =
        rw (item_is k h) (features_past p.used (features_at file (get_or rs k 0)) record_allowed_lem (features_sixteen file (get_or rs k 0) (numbers_stored k h)) i l)

-- ---- an item that is fetched by its place

module _ (file table : List ℕ) (k : ℕ) (t : Tabled file table k) where
  pub tabled_stored : Stored file (get_or table k 0)
  tabled_stored =
      let a = counted_accepted file k t.counted in
      subst (Stored file) (sym t.same) (numbers_stored file a.0 _ _ a.1 k t.counted)

  pub tabled_item : item_at file (get_or table k 0) ≡ item_in (items_in (reading file)) k
  tabled_item =
      let a = counted_accepted file k t.counted in
      ap (item_at file) t.same ∙ sym (item_is file a.0 _ _ a.1 k t.counted)
