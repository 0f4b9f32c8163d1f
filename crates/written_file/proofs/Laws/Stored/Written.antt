-- The written file stores what it was written of, and so is read as that. Assumes nothing.
use mathlib.Core.Path.{◌≡◌, refl, sym, ◌∙◌, ap, ap₂}
use mathlib.Core.Bool.{Bool}
use mathlib.Core.List.{List, [], ◌∷◌, ◌++◌, map}
use Prim.Native.Nat.{ℕ, suc, ◌+◌, ◌*◌, ◌≤◌, ◌<◌}
use native.Mathlib.Omega.{arith}
use Rattle.std.proofs.lemmas.List.{map-id}
use lib.IntN.{ℤ, pos}
use lib.ListN.{length, get_or, drop, length-append, length-map, length-take, length-drop}
use lib.Seq.{ext_get_or, get_or-append-add, get_or-drop, get_or-take}
use lib.Signed.{mag}
use Rattle.integers.proofs.Laws.Bounds.{mag-nat_abs}
use Rattle.integers.proofs.Laws.Truth.{&&_true}
use Rattle.training_file.specs.declared.item.Item.{Item}
use Rattle.training_file.specs.declared.item.Label.TheVariants.{PassedOver}
use Rattle.training_file.specs.declared.parameters.Parameters.{Parameters}
use Rattle.training_file.specs.declared.refusal.Refusal.TheVariants.{Header, Labels, Record}
use Rattle.training_file.specs.Layout.{byte_at, byte_of_signed, feature_bytes, feature_count, next_of, record_start, signed_byte, signed_most}
use Rattle.training_file.specs.Item.{both_labels, byte_of_label, item_allowed, item_in, item_of}
use Rattle.training_file.specs.Header.{parameters_of}
use Rattle.training_file.specs.Record.{features_at}
use Rattle.training_file.proofs.Laws.Parameters.{kernel_back}
use Rattle.training_file.proofs.Laws.Item.{features_most, label_back, label_byte_allowed}
use Rattle.training_file.proofs.Laws.Record.{every_true}
use Rattle.reading.specs.Reading.{accepted, reading, unless}
use Rattle.written_file.specs.Fields.{bytes2, signed_bytes}
use Rattle.written_file.specs.File.{file_length, file_of, following, header_bytes, record_bytes, records_to}
use Rattle.written_file.specs.Stored.{Stores, Writable, numbers_to}
use Rattle.written_file.proofs.Laws.Fields.{all_signed_back, eight_back, four_back, halves_back}
use Rattle.written_file.proofs.Laws.File.{record_at, record_length, records-length}
use Rattle.written_file.proofs.Laws.Stored.{stored_read}

-- ---- a file put together of parameters, labels' bytes and features

module _ (p : Parameters) (n : ℕ) (label : ℕ → ℕ) (features : ℕ → List ℤ)
    (sixteen : (k : ℕ) → k < n → length (features k) ≡ feature_count)
    (small : (k : ℕ) → k < n → (i : ℕ) → mag (get_or (features k) i (pos 0)) < signed_most) where
  abbrev record_of : (next k : ℕ) → List ℕ
  record_of next k = record_bytes next (label k) (features k)

  abbrev file : List ℕ
  file = header_bytes n p ++ records_to n record_of n

  twenty : (next k : ℕ) → k < n → length (record_of next k) ≡ 20
  twenty next k h = record_length next (label k) (features k) (sixteen k h)

  length_of : length file ≡ file_length n
  length_of =
      length-append (header_bytes n p) (records_to n record_of n) ∙ ap (λ (k : ℕ). 32 + k) (records-length n record_of twenty n (omega arith))

  parameters_of_lem : parameters_of file ≡ p
  parameters_of_lem =
      λ i. record {
        used = p.used;
        kernel = kernel_back p.kernel i;
        grid = four_back p.grid i;
        ceiling = four_back p.ceiling i;
        second_ceiling = four_back p.second_ceiling i;
        tolerance = eight_back p.tolerance i;
        budget = four_back p.budget i;
      }

  module _ (k : ℕ) (h : k < n) where
    abbrev bytes : List ℕ
    bytes = record_of (following n (suc k)) k

    -- byte i of record k + 1
    byte_of : (i : ℕ) → i < 20 → byte_at file (record_start (suc k) + i) ≡ byte_at bytes i
    byte_of i l =
        let at : record_start (suc k) + i ≡ 32 + (20 * k + i) = omega arith in
        ap (byte_at file) at
        ∙ get_or-append-add (header_bytes n p) (records_to n record_of n) (20 * k + i) 0
        ∙ record_at n record_of twenty n (omega arith) k i h l

    next_of_lem : next_of file (suc k) ≡ following n (suc k)
    next_of_lem =
        let at : record_start (suc k) ≡ record_start (suc k) + 0 = omega arith in
        ap₂ (λ (low high : ℕ). low + 256 * high) (ap (byte_at file) at ∙ byte_of 0 (omega arith)) (byte_of 1 (omega arith))
        ∙ halves_back 256 (following n (suc k))

    feature_bytes_of : feature_bytes file (suc k) ≡ signed_bytes (features k)
    feature_bytes_of = ext_get_or 0 (feature_bytes file (suc k)) (signed_bytes (features k)) sizes same
      where
        all_sixteen : length (signed_bytes (features k)) ≡ feature_count
        all_sixteen = length-map (features k) byte_of_signed ∙ sixteen k h

        sizes : length (feature_bytes file (suc k)) ≡ length (signed_bytes (features k))
        sizes = simp (length-take, length-drop) (omega (arith, length_of, all_sixteen))

        same : (i : ℕ) → i < length (feature_bytes file (suc k)) → byte_at (feature_bytes file (suc k)) i ≡ byte_at (signed_bytes (features k)) i
        same i b =
            let few : i < feature_count = omega (arith, sizes, all_sixteen) in
            let at : record_start (suc k) + 4 + i ≡ record_start (suc k) + (4 + i) = omega arith in
            get_or-take feature_count (drop (record_start (suc k) + 4) file) i 0 few
            ∙ get_or-drop (record_start (suc k) + 4) file i 0
            ∙ ap (byte_at file) at
            ∙ byte_of (4 + i) (omega arith)
            ∙ get_or-append-add (bytes2 (following n (suc k)) ++ (label k ∷ 0 ∷ [])) (signed_bytes (features k)) i 0

    features_of : features_at file (suc k) ≡ features k
    features_of = ap (map signed_byte) feature_bytes_of ∙ all_signed_back (features k) (small k h)

  pub file_stores : Stores file p n label features
  file_stores =
      record {
        length_is = length_of;
        in_order = record { stored = halves_back 256 n; first = halves_back 256 (following n 0); next = next_of_lem };
        spare_is = refl;
        kernel_is = refl;
        parameters_are = parameters_of_lem;
        label_is = λ k h. byte_of k h 2 (omega arith);
        zero_is = λ k h. byte_of k h 3 (omega arith);
        features_are = features_of;
      }

-- ---- the file of parameters and items that make one up

-- "Reading such a file yields the same items and parameters"
pub reads_back : (p : Parameters) (items : List Item) → Writable p items → reading (file_of p items) ≡ accepted p (numbers_to (length items)) items
reads_back p items sound =
    stored_read (file_of p items) p (length items) label features
    (file_stores p (length items) label features sound.sixteen (λ k h i. omega (arith, most k h i)))
    items none allowed (λ (item : Item). item) refl sound.most (λ k h. refl) (λ k h. known (item_in items k))
    ∙ ap₂ (λ t e. unless Header t (unless Record e (unless Labels (both_labels (map (λ (item : Item). item) items)) (accepted p (numbers_to (length items)) (map (λ (item : Item). item) items)))))
    sound.parameters
    (every_true allowed none items (λ k h. &&_true (label_byte_allowed (item_in items k).label) (sound.features k h)))
    ∙ ap (λ (list : List Item). unless Labels (both_labels list) (accepted p (numbers_to (length items)) list)) (map-id items)
    ∙ ap (λ t. unless Labels t (accepted p (numbers_to (length items)) items)) sound.labels
  where
    label : ℕ → ℕ
    label k = byte_of_label (item_in items k).label

    features : ℕ → List ℤ
    features k = (item_in items k).features

    none : Item
    none = record { label = PassedOver; features = [] }

    allowed : Item → Bool
    allowed item = item_allowed p.used (byte_of_label item.label) item.features

    known : (item : Item) → item ≡ item_of (byte_of_label item.label) item.features
    known item = λ j. record { label = sym (label_back item.label) j; features = item.features }

    most : (k : ℕ) → k < length items → (i : ℕ) → mag (get_or (features k) i (pos 0)) ≤ 127
    most k h i =
        let a = mag-nat_abs (get_or (features k) i (pos 0)) in
        let b = features_most p.used (features k) (sound.features k h) (sound.sixteen k h) i in
        omega arith
