-- Laws of the two files that are read: the numbers of their records stand in the tables, and all sixteen features of their items decide.
-- Assumes nothing.
use mathlib.Core.Path.{◌≡◌, refl, sym, ◌∙◌, ap, subst}
use mathlib.Core.Bool.{true}
use mathlib.Core.List.{List, ◌++◌}
use Rattle.std.proofs.Common.{Ok, Err}
use Prim.Native.Nat.{ℕ, ◌≤◌, ◌<◌}
use native.Mathlib.Omega.{arith}
use lib.IntN.{pos}
use lib.ListN.{length, get_or, take, drop, length-append}
use lib.Seq.{take_all, take-append_seam}
use Rattle.training_file.specs.declared.parameters.Parameters.{Parameters}
use Rattle.training_file.specs.declared.item.Item.{Item}
use Rattle.training_file.specs.declared.refusal.Refusal.{Refusal}
use Rattle.training_file.specs.Layout.{feature_count}
use Rattle.training_file.specs.Parameters.{records_most}
use Rattle.training_file.specs.Item.{item_in}
use Rattle.reading.specs.Reading.{Reading, accepted, reading, refused}
use Rattle.reading.specs.Calls.{file_answer, table_after}
use Rattle.reading.proofs.Laws.Reading.{AcceptedFile, accepted_is}
use Rattle.reading.proofs.Laws.Reading.Accepted.{accepted_ranges, item_features_past, items_counted, items_most, numbers_stored}
use Rattle.last_items.specs.Last.{last_only}
use Rattle.pooling.specs.Pooling.{alike}
use Rattle.last_items.specs.Kept.{FewStored, items_at}
use Rattle.last_items.proofs.Laws.Last.{each_append, sixteen_decide}
use Rattle.pooling.proofs.Laws.Call.{alike_used}

-- a file that is refused
pub read_refused : (r : Reading) {why : Refusal} → Err why ≡ file_answer r → r ≡ refused why
read_refused (refused why') {why = why} e = let same : why' ≡ why = cc in ap refused same
read_refused (accepted p order items) e = cc

-- one that is accepted, whose order is in a table
pub record OrderIn (file : List ℕ) (p : Parameters) (count : ℕ) (table : List ℕ) : Type 0 where
  pub order : List ℕ
  pub items : List Item
  pub read : reading file ≡ accepted p order items
  pub held : count ≤ length table
  pub stored : FewStored file (take count table)
  pub items_are : items_at file (take count table) ≡ items

pub order_in_lem : (file before : List ℕ) {p : Parameters} {count : ℕ} {table : List ℕ} → length before ≡ records_most
    → Ok (p, count) ≡ file_answer (reading file) → table ≡ table_after (reading file) before → OrderIn file p count table
order_in_lem file before {p = p} {count = count} {table = table} long a t = by (reading file) refl a t
  where
    by : (r : Reading) → reading file ≡ r → Ok (p, count) ≡ file_answer r → table ≡ table_after r before → OrderIn file p count table
    by (refused why) f a t = cc
    by (accepted q order items) f a t =
        let same : ◌≡◌ {A = Parameters × ℕ} (q, length order) (p, count) = cc in
        let same-p : q ≡ p = ap (λ pair. pair.0) same in
        let same_count : length order ≡ count = ap (λ pair. pair.1) same in
        let is = accepted_is file q order items f in
        let most = items_most file q order items is in
        let counted = items_counted file q order items is in
        let whole : take (length before) order ≡ order = take_all (length before) order (omega arith) in
        let is-table : table ≡ order ++ drop (length order) before = t ∙ ap (λ (l : List ℕ). l ++ drop (length order) before) whole in
        let numbers : take count table ≡ order
        = ap (λ (k : ℕ). take k table) (sym same_count) ∙ ap (take (length order)) is-table ∙ take-append_seam order (drop (length order) before) in
        record {
          order = order;
          items = items;
          read = f ∙ ap (λ (x : Parameters). accepted x order items) same-p;
          held = omega (arith, ap length is-table, length-append order (drop (length order) before));
          stored = subst (FewStored file) (sym numbers) (record { few = omega arith; stored = numbers_stored file q order items is });
          items_are = ap (items_at file) numbers ∙ sym is.items_are;
        }

-- the items of both files, by the numbers in the tables: the last of all by all sixteen features are the last by those in use
module _ (older : List ℕ) (p : Parameters) (count : ℕ) (table : List ℕ) (l : OrderIn older p count table)
    (newer : List ℕ) (q : Parameters) (count' : ℕ) (table' : List ℕ) (l' : OrderIn newer q count' table') where
  is : AcceptedFile older p l.order l.items
  is = accepted_is older p l.order l.items l.read

  is' : AcceptedFile newer q l'.order l'.items
  is' = accepted_is newer q l'.order l'.items l'.read

  -- past the features in use those of both are 0
  abbrev ZeroPast : Item → Type 0
  ZeroPast item = (i : ℕ) → q.used ≤ i → get_or item.features i (pos 0) ≡ pos 0

  past : alike p q ≡ true → (k : ℕ) → k < length (l.items ++ l'.items) → ZeroPast (item_in (l.items ++ l'.items) k)
  past same =
      let used = alike_used p q same in
      each_append ZeroPast _ l.items l'.items
      (λ k h i m. item_features_past older p l.order l.items is k (omega (arith, items_counted older p l.order l.items is)) i (omega (arith, used)))
      (λ k h i m. item_features_past newer q l'.order l'.items is' k (omega (arith, items_counted newer q l'.order l'.items is')) i m)

  pub order_in_last : alike p q ≡ true
      → last_only q.used (l.items ++ l'.items) ≡ last_only feature_count (items_at older (take count table) ++ items_at newer (take count' table'))
  order_in_last same =
      sym (sixteen_decide q.used (l.items ++ l'.items) (accepted_ranges newer q l'.order l'.items is').used_greatest (λ k i h m. past same k h i m))
      ∙ (λ j. last_only feature_count (sym l.items_are j ++ sym l'.items_are j))

  pub order_in_used : q.used ≤ feature_count
  order_in_used = (accepted_ranges newer q l'.order l'.items is').used_greatest
