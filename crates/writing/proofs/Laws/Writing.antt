-- The theorems of request (b): what is written is read back, what is read is written back byte for byte, and the writer refuses what the
-- reader would. Assumes nothing.
use mathlib.Core.Path.{◌≡◌, refl, sym, ◌∙◌, ap, subst}
use mathlib.Core.Bool.{Bool, true, false}
use mathlib.Core.List.{List, [], ◌∷◌, ◌++◌}
use Prim.Native.Nat.{ℕ, suc, ◌+◌, ◌≤◌, ◌<◌}
use native.Mathlib.Decide.{dec_lt}
use native.Mathlib.Omega.{arith}
use Rattle.std.specs.Result.{result_err}
use lib.Dec.{leb}
use lib.IntN.{ℤ, pos}
use lib.ListN.{length, get_or, length-map, get_or-append, get_or-eq_default}
use lib.Seq.{ext_get_or, get_or-append-add}
use lib.Signed.{mag}
use borrow.Author.Tests.{le-leb, leb-true, lt-leb}
use Rattle.integers.proofs.Laws.Tabulate.{length-tabulate, tabulate_at}
use Rattle.integers.proofs.Laws.Truth.{&&_right, &&_true}
use Rattle.training_file.specs.declared.item.Item.{Item}
use Rattle.training_file.specs.declared.parameters.Parameters.{Parameters}
use Rattle.training_file.specs.declared.refusal.Refusal.TheVariants as refusal
use Rattle.training_file.specs.Refusal.{writing_refuses}
use Rattle.training_file.specs.Layout.{byte_at, byte_of_signed, feature_count, signed_most}
use Rattle.training_file.specs.Parameters.{parameters_allowed, records_most}
use Rattle.training_file.specs.Item.{both_labels, byte_of_label, features_allowed, item_in, label_allowed, label_of_byte}
use Rattle.training_file.specs.Record.{every}
use Rattle.training_file.proofs.Laws.Item.{label_back, label_byte_allowed}
use Rattle.training_file.proofs.Laws.Record.{every_at}
use Rattle.reading.specs.Reading.{Reading, accepted, reading}
use Rattle.reading.specs.Reading as reader
use Rattle.reading.specs.Calls.{file_answer}
use Rattle.written_file.specs.File.{file_length, file_of}
use Rattle.written_file.specs.Stored.{InOrder, Writable, numbers_to}
use Rattle.written_file.specs.Output.{Refuses, file_fits, refused, unless, write_into, wrote, written_answer}
use Rattle.written_file.proofs.Laws.File.{file-length}
use Rattle.written_file.proofs.Laws.Output.{unless_refuses, unless_wrote}
use Rattle.written_file.proofs.Laws.Stored.{many_read, stored_read}
use Rattle.written_file.proofs.Laws.Stored.Written.{file_stores, reads_back}
use Rattle.written_file.proofs.Laws.Stored.Back.{accepted_writable, comes_back}
use Rattle.writing.specs.Row.{StoresRows, item_row, item_rows, row_allowed, row_features, row_item, row_items, row_label}
use Rattle.writing.specs.Writing.{writing}
use Rattle.writing.proofs.Laws.Row.{row_at, row_sixteen}
use Rattle.writing.proofs.Laws.Call.{writes_1}

-- ---- the call by its tests

module _ (p : Parameters) (rows : List (List ℤ)) (room : ℕ) where
  -- every test passed, and the file
  record Passed (file : List ℕ) : Type 0 where
    parameters : parameters_allowed p ≡ true
    most : leb (length rows) records_most ≡ true
    rows_allowed : every (row_allowed p.used) rows ≡ true
    labels : both_labels (row_items rows) ≡ true
    fits : file_fits (length (row_items rows)) room ≡ true
    is : file_of p (row_items rows) ≡ file

  passed : (file : List ℕ) → writing p rows room ≡ wrote file → Passed file
  unfolding writing
  passed file e =
      let parameters = unless_wrote refusal.Header (parameters_allowed p) _ file e in
      let most = unless_wrote refusal.FileLength (leb (length rows) records_most) _ file parameters.1 in
      let rows_allowed = unless_wrote refusal.Record (every (row_allowed p.used) rows) _ file most.1 in
      let labels = unless_wrote refusal.Labels (both_labels (row_items rows)) _ file rows_allowed.1 in
      let fits = unless_wrote refusal.Output (file_fits (length (row_items rows)) room) (wrote (file_of p (row_items rows))) file labels.1 in
      record {
        parameters = parameters.0;
        most = most.0;
        rows_allowed = rows_allowed.0;
        labels = labels.0;
        fits = fits.0;
        is = cc fits.1;
      }

  -- the call's refusals are those listed for it, and carry no record
  pub writing_refuses_lem : Refuses writing_refuses (writing p rows room)
  unfolding writing
  writing_refuses_lem =
      let tested = unless_refuses writing_refuses in
      let after-5 = unless refusal.Output (file_fits (length (row_items rows)) room) (wrote (file_of p (row_items rows))) in
      let after-4 = unless refusal.Labels (both_labels (row_items rows)) after-5 in
      let after-1 = unless refusal.Record (every (row_allowed p.used) rows) after-4 in
      let after-2 = unless refusal.FileLength (leb (length rows) records_most) after-1 in
      tested refusal.Header (parameters_allowed p) after-2 refl (λ q. omega arith) (λ q. omega arith)
      (tested refusal.FileLength (leb (length rows) records_most) after-1 refl (λ q. omega arith) (λ q. omega arith)
      (tested refusal.Record (every (row_allowed p.used) rows) after-4 refl (λ q. omega arith) (λ q. omega arith)
      (tested refusal.Labels (both_labels (row_items rows)) after-5 refl (λ q. omega arith) (λ q. omega arith)
      (tested refusal.Output (file_fits (length (row_items rows)) room) (wrote (file_of p (row_items rows))) refl (λ q. omega arith) (λ q. omega arith) tt))))

-- ---- "Reading such a file yields the same items and parameters"

passed_writable : (p : Parameters) (rows : List (List ℤ)) (room : ℕ) (file : List ℕ) → Passed p rows room file → Writable p (row_items rows)
passed_writable p rows room file held =
    record {
      parameters = held.parameters;
      most = omega (arith, counted, leb-true (length rows) records_most held.most);
      sixteen = λ k h. row_sixteen rows k (omega (arith, counted));
      features = λ k h.
          let l : k < length rows = omega (arith, counted) in
          ap (λ (item : Item). features_allowed p.used item.features) (row_at rows k l)
          ∙ &&_right (label_allowed (row_label (get_or rows k []))) (features_allowed p.used (row_features (get_or rows k [])))
          (every_at (row_allowed p.used) [] rows held.rows_allowed k l);
      labels = held.labels;
    }
  where
    counted : length (row_items rows) ≡ length rows
    counted = length-map rows row_item

pub written_read : (p : Parameters) (rows : List (List ℤ)) (room : ℕ) (file : List ℕ) → writing p rows room ≡ wrote file
    → reading file ≡ accepted p (numbers_to (length rows)) (row_items rows)
written_read p rows room file e =
    let held = passed p rows room file e in
    ap reading (sym held.is) ∙ reads_back p (row_items rows) (passed_writable p rows room file held)
    ∙ ap (λ (n : ℕ). accepted p (numbers_to n) (row_items rows)) (length-map rows row_item)

-- ---- "an accepted file with this layout comes out byte for byte"

row_features_lem : (features : List ℤ) (label : ℤ) → length features ≡ feature_count → row_features (features ++ (label ∷ [])) ≡ features
row_features_lem features label sixteen =
    ext_get_or (pos 0) (row_features (features ++ (label ∷ []))) features (length-tabulate at feature_count ∙ sym sixteen)
    (λ k h.
    let l : k < feature_count = omega (arith, length-tabulate at feature_count) in
    tabulate_at at (pos 0) feature_count k l ∙ get_or-append features (label ∷ []) (pos 0) k (omega (arith, sixteen)))
  where
    at : ℕ → ℤ
    at i = get_or (features ++ (label ∷ [])) i (pos 0)

row_label_lem : (features : List ℤ) (label : ℤ) → length features ≡ feature_count → get_or (features ++ (label ∷ [])) feature_count (pos 0) ≡ label
row_label_lem features label sixteen =
    let e : feature_count ≡ length features + 0 = omega (arith, sixteen) in
    ap (λ (k : ℕ). get_or (features ++ (label ∷ [])) k (pos 0)) e ∙ get_or-append-add features (label ∷ []) 0 (pos 0)

-- an item is that of its row
row_item_lem : (item : Item) → length item.features ≡ feature_count → row_item (item_row item) ≡ item
row_item_lem item sixteen =
    let label = ap byte_of_signed (row_label_lem item.features (pos (byte_of_label item.label)) sixteen) in
    λ j. record {
      label = (ap label_of_byte label ∙ label_back item.label) j;
      features = row_features_lem item.features (pos (byte_of_label item.label)) sixteen j;
    }

row_judged : (d : ℕ) (item : Item) → length item.features ≡ feature_count → features_allowed d item.features ≡ true → row_allowed d (item_row item) ≡ true
row_judged d item sixteen allowed =
    let label = ap byte_of_signed (row_label_lem item.features (pos (byte_of_label item.label)) sixteen) in
    &&_true (ap label_allowed label ∙ label_byte_allowed item.label)
    (ap (features_allowed d) (row_features_lem item.features (pos (byte_of_label item.label)) sixteen) ∙ allowed)

rows_items : (items : List Item) → ((k : ℕ) → k < length items → length (item_in items k).features ≡ feature_count) → row_items (item_rows items) ≡ items
rows_items [] sixteen = refl
rows_items (item ∷ items) sixteen = λ j. row_item_lem item (sixteen 0 (omega arith)) j ∷ rows_items items (λ k h. sixteen (suc k) (omega arith)) j

rows_judged : (d : ℕ) (items : List Item) → ((k : ℕ) → k < length items → length (item_in items k).features ≡ feature_count)
    → ((k : ℕ) → k < length items → features_allowed d (item_in items k).features ≡ true) → every (row_allowed d) (item_rows items) ≡ true
unfolding every
rows_judged d [] sixteen allowed = refl
rows_judged d (item ∷ items) sixteen allowed =
    &&_true (row_judged d item (sixteen 0 (omega arith)) (allowed 0 (omega arith)))
    (rows_judged d items (λ k h. sixteen (suc k) (omega arith)) (λ k h. allowed (suc k) (omega arith)))

-- of items that a file may hold, only the labels and the room are left to judge
pub rows_tested : (p : Parameters) (items : List Item) (room : ℕ) → parameters_allowed p ≡ true → length items ≤ records_most
    → ((k : ℕ) → k < length items → length (item_in items k).features ≡ feature_count)
    → ((k : ℕ) → k < length items → features_allowed p.used (item_in items k).features ≡ true)
    → writing p (item_rows items) room ≡ unless refusal.Labels (both_labels items) (write_into room p items)
unfolding writing
rows_tested p items room a few sixteen allowed =
    let same = rows_items items sixteen in
    let most = le-leb (length (item_rows items)) records_most (omega (arith, length-map items item_row)) in
    λ j. unless refusal.Header (a j)
    (unless refusal.FileLength (most j)
    (unless refusal.Record (rows_judged p.used items sixteen allowed j)
    (unless refusal.Labels (both_labels (same j))
    (write_into room p (same j)))))

-- parameters and items that make up a file are written as that file
rows_written : (p : Parameters) (items : List Item) (room : ℕ) → Writable p items → file_length (length items) ≤ room
    → writing p (item_rows items) room ≡ wrote (file_of p items)
rows_written p items room sound fits =
    rows_tested p items room sound.parameters sound.most sound.sixteen sound.features
    ∙ (λ j. unless refusal.Labels (sound.labels j) (unless refusal.Output (le-leb (file_length (length items)) room fits j) (wrote (file_of p items))))

pub read_written : (file : List ℕ) → ((i : ℕ) → byte_at file i < 256) → (p : Parameters) (order : List ℕ) (items : List Item)
    → reading file ≡ accepted p order items → InOrder file (length items) → (room : ℕ) → length file ≤ room
    → writing p (item_rows items) room ≡ wrote file
read_written file bytes p order items read ordered room fits =
    let back = comes_back file bytes p order items read ordered in
    let sound = accepted_writable file p order items read in
    rows_written p items room sound (omega (arith, ap length back, file-length items (length items) sound.sixteen p)) ∙ ap wrote back

-- ---- "Checks are those of the reader"

-- Where a file stores these parameters and rows, the writer refuses them as the reader refuses that file, and with no other number; where
-- one accepts, so does the other.
pub refuses_as_reader : (p : Parameters) (rows : List (List ℤ)) (room : ℕ) (file : List ℕ) → StoresRows file p rows
    → length rows ≤ records_most → file_length (length rows) ≤ room
    → result_err (written_answer (writing p rows room)) ≡ result_err (file_answer (reading file))
unfolding writing
refuses_as_reader p rows room file stores few fits =
    (λ j. result_err (written_answer
    (unless refusal.Header (parameters_allowed p)
    (unless refusal.FileLength (le-leb (length rows) records_most few j)
    (unless refusal.Record (every (row_allowed p.used) rows)
    (unless refusal.Labels (both_labels (row_items rows))
    (unless refusal.Output (room_is j) (wrote (file_of p (row_items rows))))))))))
    ∙ alike (parameters_allowed p) (every (row_allowed p.used) rows) (both_labels (row_items rows))
    ∙ ap (λ (read : Reading). result_err (file_answer read)) (sym read_is)
  where
    room_is : file_fits (length (row_items rows)) room ≡ true
    room_is = le-leb (file_length (length (row_items rows))) room (omega (arith, length-map rows row_item))

    read_as : (a c d : Bool) → Reading
    read_as a c d = reader.unless refusal.Header a (reader.unless refusal.Record c (reader.unless refusal.Labels d (accepted p (numbers_to (length rows)) (row_items rows))))

    read_is : reading file ≡ read_as (parameters_allowed p) (every (row_allowed p.used) rows) (both_labels (row_items rows))
    read_is =
        stored_read file p (length rows) (λ k. row_label (get_or rows k [])) (λ k. row_features (get_or rows k [])) stores
        rows [] (row_allowed p.used) row_item refl few (λ k h. refl) (λ k h. refl)

    alike : (a c d : Bool)
        → result_err (written_answer (unless refusal.Header a (unless refusal.Record c (unless refusal.Labels d (wrote (file_of p (row_items rows)))))))
        ≡ result_err (file_answer (read_as a c d))
    alike false c d = refl
    alike true false d = refl
    alike true true false = refl
    alike true true true = refl

-- More rows than a file may store: the writer refuses with 1, once the parameters are allowed, and so does the reader each file that would
-- store them.
pub too_many_refused : (p : Parameters) (rows : List (List ℤ)) (room : ℕ) → records_most < length rows → parameters_allowed p ≡ true
    → writing p rows room ≡ refused refusal.FileLength
too_many_refused p rows room many allowed = writes_1 p rows room allowed (lt-leb (length rows) records_most many)

pub too_many_unreadable : (p : Parameters) (rows : List (List ℤ)) (file : List ℕ) → StoresRows file p rows → records_most < length rows
    → reading file ≡ reader.refused refusal.FileLength
too_many_unreadable p rows file stores many = many_read file p (length rows) _ _ stores many

-- There is such a file, as a list of numbers, for all rows of signed bytes.
pub rows_stored : (p : Parameters) (rows : List (List ℤ)) → ((k i : ℕ) → mag (get_or (get_or rows k []) i (pos 0)) < signed_most)
    → (file : List ℕ) × StoresRows file p rows
rows_stored p rows small = (
  _,
  file_stores p (length rows) (λ k. row_label (get_or rows k [])) (λ k. row_features (get_or rows k []))
      (λ k h. length-tabulate (λ i. get_or (get_or rows k []) i (pos 0)) feature_count)
      (λ k h i. feature_small k i),
)
  where
    feature_small : (k i : ℕ) → mag (get_or (row_features (get_or rows k [])) i (pos 0)) < signed_most
    feature_small k i = by (dec_lt i feature_count)
      where
        at : ℕ → ℤ
        at j = get_or (get_or rows k []) j (pos 0)

        by : Dec (i < feature_count) → mag (get_or (row_features (get_or rows k [])) i (pos 0)) < signed_most
        by (yes l) = subst (λ (z : ℤ). mag z < signed_most) (sym (tabulate_at at (pos 0) feature_count i l)) (small k i)
        by (no l) =
            subst (λ (z : ℤ). mag z < signed_most)
            (sym (get_or-eq_default (row_features (get_or rows k [])) (pos 0) {n = i} (omega (arith, length-tabulate at feature_count))))
            (omega arith)
