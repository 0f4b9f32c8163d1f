-- Laws of the items left: labels counted, and records put one after the other. Assumes nothing.
use mathlib.Core.Path.{◌≡◌, refl, sym, ◌∙◌, ap}
use mathlib.Core.Bool.{Bool, true, false, cond}
use borrow.Author.Tests.{ltb-false, ltb-true}
use Rattle.std.proofs.Common.{filter, nat_lt}
use mathlib.Core.List.{List, [], ◌∷◌, ◌++◌, append_assoc, append-nil, map-append}
use Prim.Native.Nat.{ℕ, zero, suc, ◌+◌, ◌≤◌, ◌<◌}
use native.Mathlib.Numerals.{add-one}
use native.Mathlib.Omega.{arith}
use lib.ListN.{length, get_or, take, drop, length-append, length-map}
use lib.Seq.{length-take-le, split_at, take_all, take-suc}
use Rattle.training_file.specs.declared.item.Label.{Label}
use Rattle.training_file.specs.declared.item.Label.TheVariants.{LookedUp, PassedOver}
use Rattle.training_file.specs.declared.item.Item.{Item}
use Rattle.training_file.specs.Layout.{feature_count}
use Rattle.training_file.specs.Item.{both_labels, item_in, labelled, same}
use Rattle.training_file.specs.Record.{item_at, label_at}
use Rattle.training_file.proofs.Laws.Item.{labels_all, labels_both, labels_none, labels_sum}
use Rattle.training_file.proofs.Laws.Record.{features_sixteen}
use Rattle.written_file.specs.File.{following, item_record, item_records, records_to}
use Rattle.last_items.specs.Kept.{AllStored, items_at}
use Rattle.pooling.specs.Left.{records_from}
use Rattle.last_items.proofs.Laws.Last.{each_append}

-- ---- labels counted

-- whether a label is that of items looked up
abbrev pub looked_up : Label → Bool
looked_up LookedUp = true
looked_up PassedOver = false

-- one more record is counted, or is not
one_more : (label : Label) (r n : ℕ) (rest : List ℕ) → length rest ≡ n → length (cond (looked_up label) (r ∷ rest) rest) ≡ same LookedUp label + n
one_more LookedUp r n rest e = omega arith
one_more PassedOver r n rest e = omega arith

-- so those of items looked up are counted
pub counted : (file numbers : List ℕ) → length (filter (λ r. looked_up (label_at file r)) numbers) ≡ labelled LookedUp (items_at file numbers)
unfolding labelled
counted file [] = refl
counted file (r ∷ numbers) = one_more (label_at file r) r _ _ (counted file numbers)

pub labelled-append : (label : Label) (xs ys : List Item) → labelled label (xs ++ ys) ≡ labelled label xs + labelled label ys
unfolding labelled
labelled-append label [] ys = omega arith
labelled-append label (x ∷ xs) ys = let rest = labelled-append label xs ys in omega arith

-- both labels have an item where neither none nor all are looked up
module _ (items : List Item) (count n : ℕ) (counted_is : count ≡ labelled LookedUp items) (all : n ≡ length items) where
  pub some_told : 0 < count → nat_lt count n ≡ both_labels items
  some_told some = by (nat_lt count n) refl
    where
      by : (t : Bool) → nat_lt count n ≡ t → t ≡ both_labels items
      by true e = let less = ltb-true count n e in sym (labels_both items (λ z. omega arith) (λ z. omega arith))
      by false e = let more = ltb-false count n e in sym (labels_all items (omega (arith, labels_sum items)))

  pub none_told : count ≤ 0 → nat_lt 0 count ≡ both_labels items
  none_told none = by (nat_lt 0 count) refl
    where
      by : (t : Bool) → nat_lt 0 count ≡ t → t ≡ both_labels items
      by true e = let some = ltb-true 0 count e in absurd (omega arith)
      by false e = sym (labels_none items (omega arith))

-- ---- the items of records that stand in a file

pub items_sixteen : (file numbers : List ℕ) → AllStored file numbers → (k : ℕ) → k < length (items_at file numbers)
    → length (item_in (items_at file numbers) k).features ≡ feature_count
items_sixteen file [] stored k h = absurd (omega arith)
items_sixteen file (r ∷ numbers) stored zero h = features_sixteen file r (stored 0 (omega arith))
items_sixteen file (r ∷ numbers) stored (suc k) h = items_sixteen file numbers (λ j l. stored (suc j) (omega arith)) k (omega arith)

module _ (older older_left newer newer_left : List ℕ) where
  pub both_counted : length (items_at older older_left ++ items_at newer newer_left) ≡ length older_left + length newer_left
  both_counted =
      length-append (items_at older older_left) (items_at newer newer_left)
      ∙ (λ i. length-map older_left (item_at older) i + length-map newer_left (item_at newer) i)

  pub both_sixteen : AllStored older older_left → AllStored newer newer_left → (k : ℕ) → k < length (items_at older older_left ++ items_at newer newer_left)
      → length (item_in (items_at older older_left ++ items_at newer newer_left) k).features ≡ feature_count
  both_sixteen stored stored' =
      each_append (λ (item : Item). length item.features ≡ feature_count) _ (items_at older older_left) (items_at newer newer_left)
      (items_sixteen older older_left stored) (items_sixteen newer newer_left stored')

-- ---- records one after the other

module _ (n : ℕ) where
  pub records-append : (k : ℕ) (xs ys : List Item) → records_from n k (xs ++ ys) ≡ records_from n k xs ++ records_from n (k + length xs) ys
  unfolding records_from
  records-append k [] ys = ap (λ (j : ℕ). records_from n j ys) (let e : k ≡ k + 0 = omega arith in e)
  records-append k (x ∷ xs) ys =
      ap (λ (l : List ℕ). item_record (following n (suc k)) x ++ l)
      (records-append (suc k) xs ys ∙ ap (λ (j : ℕ). records_from n (suc k) xs ++ records_from n j ys) (let e : suc k + length xs ≡ k + suc (length xs) = omega arith in e))
      ∙ sym (append_assoc (item_record (following n (suc k)) x) (records_from n (suc k) xs) (records_from n (k + suc (length xs)) ys))

  -- those of a file, by the place of each
  pub records_to_lem : (items : List Item) (k : ℕ) → k ≤ length items → records_from n 0 (take k items) ≡ item_records items n k
  unfolding records_from records_to
  records_to_lem items zero h = refl
  records_to_lem items (suc k) h =
      ap (records_from n 0) (take-suc items k _ h)
      ∙ records-append 0 (take k items) (item_in items k ∷ [])
      ∙ (λ i. records_to_lem items k (omega arith) i ++ records_from n (place i) (item_in items k ∷ []))
      ∙ ap (λ (l : List ℕ). item_records items n k ++ l) (append-nil (item_record (following n (suc k)) (item_in items k)))
    where
      place : 0 + length (take k items) ≡ k
      place = let e = length-take-le k items (omega arith) in omega arith

  pub records_all : (items : List Item) → records_from n 0 items ≡ item_records items n (length items)
  records_all items = ap (records_from n 0) (sym (take_all (length items) items (omega arith))) ∙ records_to_lem items (length items) (omega arith)

  -- one more record of a file
  module _ (before : ℕ) (file numbers : List ℕ) (k : ℕ) (inside : k < length numbers) where
    abbrev pub record_of : List ℕ
    record_of = item_record (following n (before + k + 1)) (item_at file (get_or numbers k 0))

    taken : before + length (items_at file (take k numbers)) ≡ before + k
    taken = let e = length-map (take k numbers) (item_at file) in let l = length-take-le k numbers (omega arith) in omega arith

    following_is : following n (suc (before + k)) ≡ following n (before + k + 1)
    following_is = ap (following n) (let e : suc (before + k) ≡ before + k + 1 = omega arith in e)

    pub records_split : records_from n before (items_at file numbers)
        ≡ records_from n before (items_at file (take k numbers)) ++ (record_of ++ records_from n (suc (before + k)) (items_at file (drop (suc k) numbers)))
    unfolding records_from
    records_split =
        ap (λ (l : List ℕ). records_from n before (items_at file l)) (split_at numbers k 0 inside)
        ∙ ap (records_from n before) (map-append (item_at file) (take k numbers) (get_or numbers k 0 ∷ drop (suc k) numbers))
        ∙ records-append before (items_at file (take k numbers)) (items_at file (get_or numbers k 0 ∷ drop (suc k) numbers))
        ∙ ap (λ (j : ℕ). records_from n before (items_at file (take k numbers)) ++ records_from n j (items_at file (get_or numbers k 0 ∷ drop (suc k) numbers))) taken
        ∙ ap (λ (next : ℕ). records_from n before (items_at file (take k numbers)) ++ (item_record next (item_at file (get_or numbers k 0)) ++ records_from n (suc (before + k)) (items_at file (drop (suc k) numbers)))) following_is

    pub records_more : records_from n before (items_at file (take k numbers)) ++ record_of ≡ records_from n before (items_at file (take (k + 1) numbers))
    unfolding records_from
    records_more =
        sym
        (ap (λ (j : ℕ). records_from n before (items_at file (take j numbers))) (add-one k)
        ∙ ap (λ (l : List ℕ). records_from n before (items_at file l)) (take-suc numbers k 0 inside)
        ∙ ap (records_from n before) (map-append (item_at file) (take k numbers) (get_or numbers k 0 ∷ []))
        ∙ records-append before (items_at file (take k numbers)) (items_at file (get_or numbers k 0 ∷ []))
        ∙ ap (λ (j : ℕ). records_from n before (items_at file (take k numbers)) ++ records_from n j (items_at file (get_or numbers k 0 ∷ []))) taken
        ∙ ap (λ (l : List ℕ). records_from n before (items_at file (take k numbers)) ++ l)
        (append-nil (item_record (following n (suc (before + k))) (item_at file (get_or numbers k 0))) ∙ ap (λ (next : ℕ). item_record next (item_at file (get_or numbers k 0))) following_is))

-- the records of both files' items are those of all of them
pub records_both : (older older_left newer newer_left : List ℕ) (n : ℕ) → length older_left + length newer_left ≡ n
    → records_from n 0 (items_at older older_left) ++ records_from n (length older_left) (items_at newer newer_left)
    ≡ item_records (items_at older older_left ++ items_at newer newer_left) n n
records_both older older_left newer newer_left n e =
    ap (λ (k : ℕ). records_from n 0 (items_at older older_left) ++ records_from n k (items_at newer newer_left))
    (let l : length older_left ≡ 0 + length (items_at older older_left) = omega (arith, length-map older_left (item_at older)) in l)
    ∙ sym (records-append n 0 (items_at older older_left) (items_at newer newer_left))
    ∙ records_all n (items_at older older_left ++ items_at newer newer_left)
    ∙ ap (item_records (items_at older older_left ++ items_at newer newer_left) n) (both_counted older older_left newer newer_left ∙ e)
