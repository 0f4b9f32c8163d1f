-- Laws of the public calls: what an outcome says of the file and of the table. Assumes nothing.
use mathlib.Core.Path.{◌≡◌, refl, sym, ap, subst, ◌∙◌}
use mathlib.Core.List.{List}
use Prim.Native.Nat.{ℕ, ◌≤◌, ◌<◌}
use native.Mathlib.Omega.{arith}
use Rattle.std.proofs.Common.{Result, Ok, Err}
use lib.ListN.{length, length-append, get_or-append}
use lib.Seq.{take_all}
use Rattle.training_file.specs.declared.refusal.Refusal.{Refusal}
use Rattle.training_file.specs.declared.parameters.Parameters.{Parameters}
use Rattle.training_file.specs.declared.item.Item.{Item}
use Rattle.training_file.proofs.Laws.Header.{allowed_whole}
use Rattle.chain.specs.Walk.{ends}
use Rattle.chain.specs.Answers.{Chained, order_of, records_of, table_with}
use Rattle.reading.specs.Reading.{Reading, accepted, reading, refused}
use Rattle.reading.specs.Calls.{Tabled, items_in, order_in, file_answer, file_first, table_after}
use Rattle.reading.proofs.Laws.Reading.{AcceptedFile, accepted_is}

module _ (file : List ℕ) (p : Parameters) (rs : List ℕ) (items : List Item) (a : AcceptedFile file p rs items) where
  pub accepted_order : order_of file ≡ rs
  accepted_order = ap records_of a.chain_is

  pub accepted_chained : Chained file (length rs)
  accepted_chained =
      record {
        file_whole = allowed_whole file a.length_is;
        ended = a.chain_is ∙ ap ends (sym accepted_order);
        counted = ap length (sym accepted_order);
      }

module _ (file table : List ℕ) where
  -- otherwise the chain ends with as many records as were counted, and the table has the order
  pub table_accepted : (p : Parameters) (n : ℕ) → file_answer (reading file) ≡ Ok (p, n)
      → (Chained file n) × (table_with (order_of file) table ≡ table_after (reading file) table)
  table_accepted p n e = go (reading file) refl e
    where
      go : (r : Reading) → reading file ≡ r → file_answer r ≡ Ok (p, n)
          → (Chained file n) × (table_with (order_of file) table ≡ table_after r table)
      go (refused why) f q = let z : ◌≡◌ {A = ℕ} 0 1 = cc in absurd (omega arith)
      go (accepted p' rs items) f q =
          let a = accepted_is file p' rs items f in
          let same : ◌≡◌ {A = Parameters × ℕ} (p', length rs) (p, n) = cc in let n-is : length rs ≡ n = λ i. (same i).1 in (
            subst (Chained file) n-is (accepted_chained file p' rs items a),
            ap (λ (order : List ℕ). table_with order table) (accepted_order file p' rs items a),
          )

-- ---- a call that reads its file first
module _ {A : Type 0} (refusal : Refusal → A) (call : Parameters → List ℕ → List Item → A) where
  -- an answer that refuses the file ends the call with its refusal
  pub file_refused : (r : Reading) {answer : Result (Parameters × ℕ) Refusal} {why : Refusal} → answer ≡ file_answer r → answer ≡ Err why
      → refusal why ≡ file_first refusal call r
  file_refused (refused why') {why = why} a e = let q : why ≡ why' = cc in ap refusal q
  file_refused (accepted p order items) a e = let z : ◌≡◌ {A = ℕ} 0 1 = cc in absurd (omega arith)

  -- one that accepts it leaves the call to what was read
  pub file_accepted : (r : Reading) {answer : Result (Parameters × ℕ) Refusal} {p : Parameters} {n : ℕ} → answer ≡ file_answer r → answer ≡ Ok (p, n)
      → call p (order_in r) (items_in r) ≡ file_first refusal call r
  file_accepted (refused why) a e = let z : ◌≡◌ {A = ℕ} 0 1 = cc in absurd (omega arith)
  file_accepted (accepted p' order items) {p = p} {n = n} a e = let q : ◌≡◌ {A = Parameters × ℕ} (p, n) (p', length order) = cc in λ i. call (q i).0 order items

  -- what holds of each refusal of the file and of each call on an accepted one holds of the call
  pub file_either : (file : List ℕ) (Q : Reading → A → Type 0)
      → ((why : Refusal) → reading file ≡ refused why → Q (refused why) (refusal why))
      → ((p : Parameters) (order : List ℕ) (items : List Item) → reading file ≡ accepted p order items → Q (accepted p order items) (call p order items))
      → Q (reading file) (file_first refusal call (reading file))
  file_either file Q of-refusal of-call = by (reading file) refl
    where
      by : (r : Reading) → reading file ≡ r → Q r (file_first refusal call r)
      by (refused why) e = of-refusal why e
      by (accepted p order items) e = of-call p order items e

-- ---- fetching an item by its place

-- a file whose order has a place is accepted
pub counted_accepted : (file : List ℕ) (k : ℕ) → k < length (order_in (reading file))
    → (p : Parameters) × (AcceptedFile file p (order_in (reading file)) (items_in (reading file)))
counted_accepted file k h = go (reading file) refl h
  where
    go : (r : Reading) → reading file ≡ r → k < length (order_in r) → (p : Parameters) × (AcceptedFile file p (order_in r) (items_in r))
    go (refused why) f l = absurd (omega arith)
    go (accepted p rs items) f l = (p, accepted_is file p rs items f)

-- a table with a place for each item, once the order was written into it, serves every place
pub table_serves : (file table : List ℕ) (k : ℕ) → length (order_in (reading file)) ≤ length table → k < length (order_in (reading file))
    → Tabled file (table_after (reading file) table) k
table_serves file table k room h = go (reading file) refl room h
  where
    go : (r : Reading) → reading file ≡ r → length (order_in r) ≤ length table → k < length (order_in r) → Tabled file (table_after r table) k
    go (refused why) f s l = absurd (omega arith)
    go (accepted p rs items) f s l =
        record {
          counted = subst (λ (r : Reading). k < length (order_in r)) (sym f) l;
          held = rw (take_all (length table) rs s, length-append) (omega arith);
          same = rw (take_all (length table) rs s, get_or-append, f);
        }
