-- Laws of the written file: its length, and where each record stands in it. Assumes nothing.
use mathlib.Core.Path.{◌≡◌, refl, sym, ◌∙◌, ap}
use mathlib.Core.Logic.{◌⊎◌, inl, inr}
use mathlib.Core.List.{List, ◌++◌}
use Prim.Native.Nat.{ℕ, zero, suc, ◌+◌, ◌*◌, ◌≤◌, ◌<◌}
use native.Mathlib.Nat.{le_of_suc-le-suc, eq-or-lt_of_le}
use native.Mathlib.Omega.{arith}
use lib.IntN.{ℤ}
use lib.ListN.{length, get_or, length-append, length-map, get_or-append}
use lib.Seq.{get_or-append-add}
use Rattle.training_file.specs.declared.parameters.Parameters.{Parameters}
use Rattle.training_file.specs.declared.item.Item.{Item}
use Rattle.training_file.specs.Layout.{byte_of_signed, feature_count}
use Rattle.training_file.specs.Item.{byte_of_label, item_in}
use Rattle.written_file.specs.File.{file_length, following, header_bytes, item_record, item_records, record_bytes, records_to}

pub record_length : (next label : ℕ) (features : List ℤ) → length features ≡ feature_count → length (record_bytes next label features) ≡ 20
record_length next label features h = omega (arith, h, length-map features byte_of_signed)

-- ---- records of twenty bytes, one after the other

module _ (n : ℕ) (bytes_at : (next k : ℕ) → List ℕ) (twenty : (next k : ℕ) → k < n → length (bytes_at next k) ≡ 20) where
  pub records-length : (k : ℕ) → k ≤ n → length (records_to n bytes_at k) ≡ 20 * k
  unfolding records_to
  records-length zero h = refl
  records-length (suc k) h =
      length-append (records_to n bytes_at k) (bytes_at (following n (suc k)) k)
      ∙ omega (arith, records-length k (omega arith), twenty (following n (suc k)) k h)

  -- byte i of record j + 1
  pub record_at : (k : ℕ) → k ≤ n → (j i : ℕ) → j < k → i < 20
      → get_or (records_to n bytes_at k) (20 * j + i) 0 ≡ get_or (bytes_at (following n (suc j)) j) i 0
  unfolding records_to
  record_at zero h j i l m = absurd (omega arith)
  record_at (suc k) h j i l m = by (record_at k (omega arith) j i) (eq-or-lt_of_le (le_of_suc-le-suc l))
    where
      passed : List ℕ
      passed = records_to n bytes_at k

      last : ℕ → List ℕ
      last p = bytes_at (following n (suc p)) p

      before : length passed ≡ 20 * k
      before = records-length k (omega arith)

      by : (j < k → i < 20 → get_or passed (20 * j + i) 0 ≡ get_or (last j) i 0)
          → (j ≡ k) ⊎ (j < k) → get_or (passed ++ last k) (20 * j + i) 0 ≡ get_or (last j) i 0
      by earlier (inl e) =
          ap (λ (p : ℕ). get_or (passed ++ last k) (20 * p + i) 0) e
          ∙ ap (λ (p : ℕ). get_or (passed ++ last k) (p + i) 0) (sym before)
          ∙ get_or-append-add passed (last k) i 0
          ∙ ap (λ (p : ℕ). get_or (last p) i 0) (sym e)
      by earlier (inr l) = get_or-append passed (last k) 0 (20 * j + i) (omega (arith, before)) ∙ earlier l m

-- ---- the records of items, and their file

module _ (items : List Item) (n : ℕ) (sixteen : (k : ℕ) → k < n → length (item_in items k).features ≡ feature_count) where
  pub item_twenty : (next k : ℕ) → k < n → length (item_record next (item_in items k)) ≡ 20
  item_twenty next k h = record_length next (byte_of_label (item_in items k).label) (item_in items k).features (sixteen k h)

  pub item_records-length : (k : ℕ) → k ≤ n → length (item_records items n k) ≡ 20 * k
  item_records-length = records-length n (λ next place. item_record next (item_in items place)) item_twenty

  pub file-length : (p : Parameters) → length (header_bytes n p ++ item_records items n n) ≡ file_length n
  file-length p = length-append (header_bytes n p) (item_records items n n) ∙ ap (λ (k : ℕ). 32 + k) (item_records-length n (omega arith))
