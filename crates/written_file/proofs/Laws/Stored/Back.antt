-- An accepted file with this layout, written anew from what is read of it, comes out byte for byte. Assumes nothing.
use mathlib.Core.Path.{◌≡◌, refl, sym, ◌∙◌, ap, ap₂}
use mathlib.Core.Bool.{true}
use mathlib.Core.List.{List, [], ◌∷◌, ◌++◌}
use Prim.Native.Nat.{ℕ, zero, suc, ◌+◌, ◌*◌, ◌≤◌, ◌<◌}
use native.Mathlib.Nat.{add-zero}
use native.Mathlib.Omega.{arith}
use lib.ListN.{length, get_or, take, drop, length-drop, take-append-drop}
use lib.Seq.{drop-cons, drop-drop, take-add, take_all}
use Rattle.training_file.specs.declared.item.Item.{Item}
use Rattle.training_file.specs.declared.parameters.Parameters.{Parameters}
use Rattle.training_file.specs.Layout.{byte_at, feature_bytes, first_record, kernel_byte, label_byte, next_of, record_start, records_stored}
use Rattle.training_file.specs.Parameters.{parameters_allowed}
use Rattle.training_file.specs.Item.{features_allowed, item_in}
use Rattle.training_file.specs.Header.{WholeFile, header_allowed, parameters_of}
use Rattle.training_file.specs.Record.{item_at, record_allowed}
use Rattle.training_file.proofs.Laws.Parameters.{kernel_byte_back}
use Rattle.training_file.proofs.Laws.Item.{label_byte_back}
use Rattle.training_file.proofs.Laws.Header.{allowed_whole, header_kernel, header_parameters, header_spare}
use Rattle.training_file.proofs.Laws.Record.{every_at, feature_bytes_small, features_sixteen, record_features, record_label, record_zero}
use Rattle.chain.specs.Walk.{ends}
use Rattle.chain.proofs.Laws.Chain.{chain_complete}
use Rattle.reading.specs.Reading.{accepted, reading}
use Rattle.reading.proofs.Laws.Reading.{AcceptedFile, accepted_is}
use Rattle.reading.proofs.Laws.Reading.Accepted.{item_is, items_counted, items_most, numbers_stored}
use Rattle.written_file.specs.Fields.{bytes2}
use Rattle.written_file.specs.File.{file_of, following, header_bytes, item_record, item_records, records_to}
use Rattle.written_file.specs.Stored.{InOrder, Writable, numbers_to}
use Rattle.written_file.proofs.Laws.Fields.{all_signed_byte_back, bytes2_back, bytes4_back, bytes8_back}
use Rattle.written_file.proofs.Laws.Stored.{in_order_chain, numbers_at, numbers_length}

-- the bytes of a list from a place on, one by one
abbrev places : List ℕ → (at i k : ℕ) → List ℕ
places l at i zero = []
places l at i (suc k) = byte_at l (at + i) ∷ places l at (suc i) k

take_places : (l : List ℕ) (at i k : ℕ) → at + i + k ≤ length l → take k (drop (at + i) l) ≡ places l at i k
take_places l at i zero h = refl
take_places l at i (suc k) h =
    ap (take (suc k)) (drop-cons l (at + i) 0 (omega arith))
    ∙ ap (λ (more : List ℕ). byte_at l (at + i) ∷ more)
    (ap (λ (j : ℕ). take k (drop j l)) (let e : suc (at + i) ≡ at + suc i = omega arith in e) ∙ take_places l at (suc i) k (omega arith))

module _ (file : List ℕ) (bytes : (i : ℕ) → byte_at file i < 256) where
  abbrev b : ℕ → ℕ
  b i = byte_at file i

  -- ---- the header

  header_back : (n : ℕ) → InOrder file n → 32 ≤ length file → header_allowed file ≡ true → header_bytes n (parameters_of file) ≡ take 32 file
  header_back n ordered long allowed =
      (λ i.
      (ap bytes2 (sym ordered.stored) ∙ bytes2_back (b 0) (b 1) (bytes 0)) i
      ++ (ap bytes2 (sym ordered.first) ∙ bytes2_back (b 2) (b 3) (bytes 2)) i
      ++ (b 4 ∷ [])
      ++ (kernel_byte_back (kernel_byte file) (header_kernel file allowed) i ∷ [])
      ++ (ap bytes2 (sym (header_spare file allowed)) ∙ bytes2_back (b 6) (b 7) (bytes 6)) i
      ++ (bytes4_back (b 8) (b 9) (b 10) (b 11) (bytes 8) (bytes 9) (bytes 10) i
      ++ bytes4_back (b 12) (b 13) (b 14) (b 15) (bytes 12) (bytes 13) (bytes 14) i
      ++ bytes8_back (b 16) (b 17) (b 18) (b 19) (b 20) (b 21) (b 22) (b 23) (bytes 16) (bytes 17) (bytes 18) (bytes 19) (bytes 20) (bytes 21) (bytes 22) i
      ++ bytes4_back (b 24) (b 25) (b 26) (b 27) (bytes 24) (bytes 25) (bytes 26) i
      ++ bytes4_back (b 28) (b 29) (b 30) (b 31) (bytes 28) (bytes 29) (bytes 30) i))
      ∙ sym (take_places file 0 0 32 (omega arith))

  -- ---- a record

  first_four : (start : ℕ) → start + 20 ≤ length file
      → take 20 (drop start file) ≡ b start ∷ b (start + 1) ∷ b (start + 2) ∷ b (start + 3) ∷ take 16 (drop (start + 4) file)
  first_four start h =
      take-add 4 16 (drop start file)
      ∙ (λ i. (ap (λ (k : ℕ). take 4 (drop k file)) (sym (add-zero start)) ∙ take_places file start 0 4 (omega arith)) i ++ take 16 (drop-drop 4 start file i))
      ∙ ap (λ (k : ℕ). b k ∷ b (start + 1) ∷ b (start + 2) ∷ b (start + 3) ∷ take 16 (drop (start + 4) file)) (add-zero start)

  record_back : (d r : ℕ) → record_start r + 20 ≤ length file → record_allowed d file r ≡ true
      → item_record (next_of file r) (item_at file r) ≡ take 20 (drop (record_start r) file)
  record_back d r whole allowed =
      let start = record_start r in
      (λ i.
      bytes2_back (b start) (b (start + 1)) (bytes start) i
      ++ (label_byte_back (label_byte file r) (record_label d file r allowed) i ∷ [])
      ++ (sym (record_zero d file r allowed) i ∷ [])
      ++ all_signed_byte_back (feature_bytes file r) (feature_bytes_small file bytes r) i)
      ∙ sym (first_four start whole)

-- ---- "an accepted file with this layout comes out byte for byte"

module _ (file : List ℕ) (bytes : (i : ℕ) → byte_at file i < 256) (p : Parameters) (order : List ℕ) (items : List Item)
    (read : reading file ≡ accepted p order items) (ordered : InOrder file (length items)) where
  abbrev n : ℕ
  n = length items

  is : AcceptedFile file p order items
  is = accepted_is file p order items read

  whole : WholeFile file
  whole = allowed_whole file is.length_is

  -- the order is 1 to n
  order_is : order ≡ numbers_to n
  order_is =
      let e : ends order ≡ ends (numbers_to n)
      = sym is.chain_is ∙ chain_complete (next_of file) (records_stored file) (first_record file) (numbers_to n) (in_order_chain file n ordered) in
      let same : order ≡ numbers_to n = cc in
      same

  number : (k : ℕ) → k < n → get_or order k 0 ≡ suc k
  number k h = ap (λ (l : List ℕ). get_or l k 0) order_is ∙ numbers_at n k h

  counted : length order ≡ n
  counted = ap length order_is ∙ numbers_length n

  record_of : (k : ℕ) → k < n → item_record (following n (suc k)) (item_in items k) ≡ take 20 (drop (32 + 20 * k) file)
  record_of k h =
      let at : record_start (suc k) ≡ 32 + 20 * k = omega arith in
      let l : k < length order = omega (arith, counted) in
      ap₂ item_record (sym (ordered.next k h)) (item_is file p order items is k l ∙ ap (item_at file) (number k h))
      ∙ record_back file bytes p.used (suc k) (omega (arith, whole.whole, ordered.stored))
      (ap (record_allowed p.used file) (sym (number k h)) ∙ every_at (record_allowed p.used file) 0 order is.records_are k l)
      ∙ ap (λ (start : ℕ). take 20 (drop start file)) at

  records_back : (k : ℕ) → k ≤ n → item_records items n k ≡ take (20 * k) (drop 32 file)
  unfolding records_to
  records_back zero h = refl
  records_back (suc k) h =
      let more : 20 * k + 20 ≡ 20 * suc k = omega arith in
      (λ i. records_back k (omega arith) i ++ (record_of k h ∙ ap (take 20) (sym (drop-drop (20 * k) 32 file))) i)
      ∙ sym (take-add (20 * k) 20 (drop 32 file))
      ∙ ap (λ (count : ℕ). take count (drop 32 file)) more

  pub comes_back : file_of p items ≡ file
  comes_back =
      (λ i.
      (ap (header_bytes n) is.parameters_are ∙ header_back file bytes n ordered (omega (arith, whole.whole)) is.header_is) i
      ++ (records_back n (omega arith)
      ∙ take_all (20 * n) (drop 32 file) (omega (arith, length-drop 32 file, whole.whole, ordered.stored))) i)
      ∙ take-append-drop 32 file

-- ---- what is read of any file makes up a file again

pub accepted_writable : (file : List ℕ) (p : Parameters) (order : List ℕ) (items : List Item) → reading file ≡ accepted p order items → Writable p items
accepted_writable file p order items read =
    record {
      parameters = ap parameters_allowed is.parameters_are ∙ header_parameters file is.header_is;
      most = items_most file p order items is;
      sixteen = λ k h.
          let l = place k h in
          ap (λ (item : Item). length item.features) (item_is file p order items is k l) ∙ features_sixteen file (get_or order k 0) (numbers_stored file p order items is k l);
      features = λ k h.
          let l = place k h in
          ap (λ (item : Item). features_allowed p.used item.features) (item_is file p order items is k l)
          ∙ record_features p.used file (get_or order k 0) (every_at (record_allowed p.used file) 0 order is.records_are k l);
      labels = is.labels_are;
    }
  where
    is : AcceptedFile file p order items
    is = accepted_is file p order items read

    place : (k : ℕ) → k < length items → k < length order
    place k h = omega (arith, items_counted file p order items is)
