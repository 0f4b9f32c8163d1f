-- What a file with this layout says, field by field, for the theorems on writing and reading. Assumes nothing.
use Rattle.std.specs.Prelude.{◌≡◌, true, List, ℕ, suc, ◌≤◌, ◌<◌, ℤ, length}
use Rattle.integers.specs.Tabulate.{tabulate}
use Rattle.training_file.specs.declared.parameters.Parameters.{Parameters}
use Rattle.training_file.specs.declared.item.Item.{Item}
use Rattle.training_file.specs.Layout.{feature_count, first_record, kernel_byte, label_byte, next_of, records_stored, spare, zero_byte}
use Rattle.training_file.specs.Parameters.{byte_of_kernel, parameters_allowed, records_most}
use Rattle.training_file.specs.Item.{both_labels, features_allowed, item_in}
use Rattle.training_file.specs.Header.{parameters_of}
use Rattle.training_file.specs.Record.{features_at}
use Rattle.written_file.specs.File.{file_length, following}

-- "Items are stored as records 1 to n, chained in that order, with no spares": m is n, the first record is 1, the next of each is the
-- following one, and that of the last is 0
pub record InOrder (file : List ℕ) (n : ℕ) : Type 0 where
  pub stored : records_stored file ≡ n
  pub first : first_record file ≡ following n 0
  pub next : (k : ℕ) → k < n → next_of file (suc k) ≡ following n (suc k)

-- the numbers of n records, in order
abbrev pub numbers_to : ℕ → List ℕ
numbers_to n = tabulate n suc

-- a file so laid out that has these parameters in its header and, in record k + 1, the label's byte and the features that are given for k,
-- whether they are allowed or not
pub record Stores (file : List ℕ) (p : Parameters) (n : ℕ) (label : ℕ → ℕ) (features : ℕ → List ℤ) : Type 0 where
  pub length_is : length file ≡ file_length n
  pub in_order : InOrder file n
  pub spare_is : spare file ≡ 0
  pub kernel_is : kernel_byte file ≡ byte_of_kernel p.kernel
  pub parameters_are : parameters_of file ≡ p
  pub label_is : (k : ℕ) → k < n → label_byte file (suc k) ≡ label k
  pub zero_is : (k : ℕ) → k < n → zero_byte file (suc k) ≡ 0
  pub features_are : (k : ℕ) → k < n → features_at file (suc k) ≡ features k

-- parameters and items that make up a file, wherever they come from: what is judged before one is written
pub record Writable (p : Parameters) (items : List Item) : Type 0 where
  pub parameters : parameters_allowed p ≡ true
  pub most : length items ≤ records_most
  pub sixteen : (k : ℕ) → k < length items → length (item_in items k).features ≡ feature_count
  pub features : (k : ℕ) → k < length items → features_allowed p.used (item_in items k).features ≡ true
  pub labels : both_labels items ≡ true
