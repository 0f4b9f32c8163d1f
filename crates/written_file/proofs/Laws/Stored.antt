-- Laws of a file with this layout: its chain, and what it is read as. Assumes nothing.
pub mod Written
pub mod Back
use mathlib.Core.Path.{◌≡◌, refl, sym, ◌∙◌, ap, ap₂}
use mathlib.Core.Bool.{Bool, true, false}
use mathlib.Core.List.{List, [], ◌∷◌, map}
use Prim.Native.Nat.{ℕ, suc, ◌≤◌, ◌<◌}
use native.Mathlib.Decide.{dec_lt}
use native.Mathlib.Omega.{arith}
use lib.IntN.{ℤ}
use lib.ListN.{length, get_or, get_or-eq_default}
use borrow.Author.Tests.{eq-eqb, le-ltb, lt-ltb}
use Rattle.integers.proofs.Laws.Tabulate.{length-tabulate, tabulate_at}
use Rattle.training_file.specs.declared.item.Item.{Item}
use Rattle.training_file.specs.declared.parameters.Parameters.{Parameters}
use Rattle.training_file.specs.declared.refusal.Refusal.TheVariants.{FileLength, Header, Labels, Record}
use Rattle.training_file.specs.Layout.{first_record, next_of, zero_byte}
use Rattle.training_file.specs.Parameters.{kernel_allowed, parameters_allowed, records_most}
use Rattle.training_file.specs.Item.{both_labels, item_allowed, item_of}
use Rattle.training_file.specs.Header.{header_allowed, length_allowed, parameters_of}
use Rattle.training_file.specs.Record.{every, item_at, record_allowed}
use Rattle.training_file.proofs.Laws.Parameters.{kernel_byte_allowed}
use Rattle.training_file.proofs.Laws.Header.{length_allowed_lem, many_refused, parameters_decide}
use Rattle.training_file.proofs.Laws.Record.{every_as, item_decides}
use Rattle.chain.specs.Chain.{ChainIn}
use Rattle.reading.specs.Reading.{Reading, accepted, reading, refused, unless}
use Rattle.reading.proofs.Laws.Reading.{reads_1, reads_2}
use Rattle.reading.proofs.Laws.Reading.Fault.{chain_read}
use Rattle.written_file.specs.File.{following}
use Rattle.written_file.specs.Stored.{InOrder, Stores, numbers_to}

pub numbers_length : (n : ℕ) → length (numbers_to n) ≡ n
numbers_length n = length-tabulate suc n

pub numbers_at : (n k : ℕ) → k < n → get_or (numbers_to n) k 0 ≡ suc k
numbers_at n k h = tabulate_at suc 0 n k h

-- the record that follows the first k is the one at place k; past the last one, 0
pub follows : (n k : ℕ) → get_or (numbers_to n) k 0 ≡ following n k
follows n k = by (dec_lt k n)
  where
    by : Dec (k < n) → get_or (numbers_to n) k 0 ≡ following n k
    by (yes l) = numbers_at n k l ∙ (rw (lt-ltb k n l))
    by (no l) = get_or-eq_default (numbers_to n) 0 {n = k} (omega (arith, numbers_length n)) ∙ (rw (le-ltb k n (omega arith)))

following_most : (n : ℕ) → following n 0 ≤ n
following_most n = by (dec_lt 0 n)
  where
    by : Dec (0 < n) → following n 0 ≤ n
    by (yes l) = rw (lt-ltb 0 n l) l
    by (no l) = rw (le-ltb 0 n (omega arith)) (omega arith)

-- ---- the chain is 1 to n

module _ (file : List ℕ) (n : ℕ) (ordered : InOrder file n) where
  number : (k : ℕ) → k < length (numbers_to n) → get_or (numbers_to n) k 0 ≡ suc k
  number k h = numbers_at n k (omega (arith, numbers_length n))

  links : (k : ℕ) → k < length (numbers_to n) → next_of file (get_or (numbers_to n) k 0) ≡ get_or (numbers_to n) (suc k) 0
  links k h = ap (next_of file) (number k h) ∙ ordered.next k (omega (arith, numbers_length n)) ∙ sym (follows n (suc k))

  starts : get_or (numbers_to n) 0 0 ≡ first_record file
  starts = follows n 0 ∙ sym ordered.first

  pub in_order_chain : ChainIn file (numbers_to n)
  in_order_chain =
      record {
        walked =
            record {
              starts = λ h. starts;
              within = λ k h. (omega (arith, number k h), omega (arith, number k h, numbers_length n, ordered.stored));
              links = λ k h. links k (omega arith);
              distinct = λ j k l h e. omega (arith, number j (omega arith), number k h, e);
            };
        starts = starts;
        links = links;
      }

-- ---- what is stored is what is read

map_as : {A B C : Type 0} (f : A → C) (g : B → C) (a : A) (b : B) (xs : List A) (ys : List B)
    → length xs ≡ length ys → ((k : ℕ) → k < length xs → f (get_or xs k a) ≡ g (get_or ys k b)) → map f xs ≡ map g ys
map_as f g a b [] [] e h = refl
map_as f g a b [] (y ∷ ys) e h = absurd (omega (arith, e))
map_as f g a b (x ∷ xs) [] e h = absurd (omega (arith, e))
map_as f g a b (x ∷ xs) (y ∷ ys) e h = λ j. h 0 (omega arith) j ∷ map_as f g a b xs ys (omega (arith, e)) (λ k l. h (suc k) (omega arith)) j

module _ (file : List ℕ) (p : Parameters) (n : ℕ) (label : ℕ → ℕ) (features : ℕ → List ℤ) (held : Stores file p n label features) where
  header_decides : header_allowed file ≡ parameters_allowed p
  header_decides =
      parameters_decide file (omega (arith, following_most n, held.in_order.first, held.in_order.stored)) held.spare_is
      (ap kernel_allowed held.kernel_is ∙ kernel_byte_allowed p.kernel)
      ∙ ap parameters_allowed held.parameters_are

  record_decides : (d k : ℕ) → k < n → record_allowed d file (suc k) ≡ item_allowed d (label k) (features k)
  record_decides d k h =
      item_decides d file (suc k) (eq-eqb (zero_byte file (suc k)) 0 (held.zero_is k h))
      ∙ ap₂ (item_allowed d) (held.label_is k h) (held.features_are k h)

  item_held : (k : ℕ) → k < n → item_at file (suc k) ≡ item_of (label k) (features k)
  item_held k h = ap₂ item_of (held.label_is k h) (held.features_are k h)

  -- more records than a file may store
  pub many_read : records_most < n → reading file ≡ refused FileLength
  many_read h = reads_1 file (many_refused file (omega (arith, held.in_order.stored)))

  -- The reading of a file that stores what a list gives, place by place: refusals 2, 4 and 5 by the parameters and the list alone.
  module _ {A : Type 0} (list : List A) (none : A) (test : A → Bool) (item : A → Item) (counted : length list ≡ n) (few : n ≤ records_most)
      (tests : (k : ℕ) → k < n → test (get_or list k none) ≡ item_allowed p.used (label k) (features k))
      (gives : (k : ℕ) → k < n → item (get_or list k none) ≡ item_of (label k) (features k)) where
    long : length_allowed file ≡ true
    long = length_allowed_lem file (omega (arith, held.in_order.stored)) (omega (arith, held.length_is, held.in_order.stored))

    every_is : every (record_allowed (parameters_of file).used file) (numbers_to n) ≡ every test list
    every_is =
        every_as (record_allowed (parameters_of file).used file) test 0 none (numbers_to n) list (numbers_length n ∙ sym counted)
        (λ k h.
        let l : k < n = omega (arith, numbers_length n) in
        ap₂ (λ (q : Parameters) (r : ℕ). record_allowed q.used file r) held.parameters_are (numbers_at n k l) ∙ record_decides p.used k l ∙ sym (tests k l))

    items_are : map (item_at file) (numbers_to n) ≡ map item list
    items_are =
        map_as (item_at file) item 0 none (numbers_to n) list (numbers_length n ∙ sym counted)
        (λ k h.
        let l : k < n = omega (arith, numbers_length n) in
        ap (item_at file) (numbers_at n k l) ∙ item_held k l ∙ sym (gives k l))

    abbrev judged : List Item → Bool → Reading
    judged items allowed = unless Record allowed (unless Labels (both_labels items) (accepted p (numbers_to n) items))

    chain_is_read : header_allowed file ≡ true → reading file ≡ judged (map item list) (every test list)
    chain_is_read h =
        chain_read file long h (numbers_to n) (in_order_chain file n held.in_order)
        ∙ (λ j. unless Record (every_is j) (unless Labels (both_labels (items_are j)) (accepted (held.parameters_are j) (numbers_to n) (items_are j))))

    pub stored_read : reading file ≡ unless Header (parameters_allowed p) (judged (map item list) (every test list))
    stored_read = by (parameters_allowed p) refl
      where
        by : (allowed : Bool) → parameters_allowed p ≡ allowed → reading file ≡ unless Header allowed (judged (map item list) (every test list))
        by true e = chain_is_read (header_decides ∙ e)
        by false e = reads_2 file long (header_decides ∙ e)
