-- The theorems of request (c): a text is imported by its lines, which are those of the form, as the file of their items; and what a file
-- holds can be said by such lines. Assumes nothing.
use mathlib.Core.Path.{◌≡◌, refl, sym, ◌∙◌, ap}
use mathlib.Core.Bool.{Bool, true, false}
use mathlib.Core.List.{List, [], ◌∷◌, map}
use mathlib.Core.Option.{Option, none, some}
use Prim.Native.Nat.{ℕ, suc, ◌≤◌, ◌<◌}
use native.Mathlib.Omega.{arith}
use lib.Dec.{leb}
use lib.ListN.{length, get_or, length-map}
use borrow.Author.Tests.{le-leb, leb-true}
use Rattle.integers.proofs.Laws.Truth.{&&_true}
use Rattle.training_file.specs.declared.item.Label.TheVariants.{LookedUp}
use Rattle.training_file.specs.declared.item.Item.{Item}
use Rattle.training_file.specs.declared.parameters.Parameters.{Parameters}
use Rattle.training_file.specs.declared.refusal.Refusal.TheVariants as refusal
use Rattle.training_file.specs.Refusal.{importing_refuses}
use Rattle.training_file.specs.Layout.{feature_count}
use Rattle.training_file.specs.Parameters.{parameters_allowed, records_most}
use Rattle.training_file.specs.Item.{both_labels, features_allowed, item_in}
use Rattle.training_file.specs.Record.{every}
use Rattle.training_file.proofs.Laws.Refusal.{one_of_alone}
use Rattle.training_file.proofs.Laws.Parameters.{allowed_ranges}
use Rattle.training_file.proofs.Laws.Item.{features_most}
use Rattle.training_file.proofs.Laws.Record.{every_at}
use Rattle.reading.specs.Reading.{accepted, reading}
use Rattle.written_file.specs.File.{file_length, file_of}
use Rattle.written_file.specs.Stored.{Writable, numbers_to}
use Rattle.written_file.specs.Output.{Refuses, file_fits, refused, unless, wrote}
use Rattle.written_file.proofs.Laws.Output.{unless_refuses, unless_wrote}
use Rattle.written_file.proofs.Laws.Stored.Written.{reads_back}
use Rattle.written_file.proofs.Laws.Stored.Back.{accepted_writable}
use Rattle.libsvm_text.specs.Form.{HasForm, Line, line_formed, text_of}
use Rattle.libsvm_text.specs.Items.{item_line, line_allowed, line_item, line_items}
use Rattle.libsvm_text.specs.Lines.{text_lines}
use Rattle.libsvm_text.proofs.Laws.Lines.{lines_exactly}
use Rattle.libsvm_text.proofs.Laws.Items.{features_judged, features-length, item_allowed_lem, item_back, item_formed}
use Rattle.importing.specs.Importing.{import_found, import_lines, importing}
use Rattle.importing.proofs.Laws.Passes.{line_at}
use Rattle.importing.proofs.Laws.Call.{imports_11, imports_all, imports_lines}

-- ---- "11, text not of this form"

-- of a text that has the form, the call is decided by the lines of which it is the text
pub imports_form : (p : Parameters) (text : List ℕ) (room : ℕ) (lines : List Line) → parameters_allowed p ≡ true → HasForm p.used text lines
    → importing p text room ≡ import_lines p room lines
imports_form p text room lines a form = imports_lines p text room a lines ((lines_exactly p.used text lines).1 form)

-- one that is the text of no such lines is refused with 11
pub refuses_other : (p : Parameters) (text : List ℕ) (room : ℕ) → parameters_allowed p ≡ true → ((lines : List Line) → HasForm p.used text lines → ⊥)
    → importing p text room ≡ refused refusal.Text
refuses_other p text room a other = by (text_lines p.used text) refl
  where
    by : (found : Option (List Line)) → text_lines p.used text ≡ found → importing p text room ≡ refused refusal.Text
    by none f = imports_11 p text room a f
    by (some lines) f = absurd (other lines ((lines_exactly p.used text lines).0 f))

-- ---- the call by its tests

module _ (p : Parameters) (room : ℕ) (lines : List Line) where
  -- every test passed, and the file
  record Passed (file : List ℕ) : Type 0 where
    most : leb (length lines) records_most ≡ true
    allowed : every line_allowed lines ≡ true
    labels : both_labels (line_items lines) ≡ true
    is : file_of p (line_items lines) ≡ file

  passed : (file : List ℕ) → import_lines p room lines ≡ wrote file → Passed file
  passed file e =
      let most = unless_wrote refusal.Lines (leb (length lines) records_most) _ file e in
      let allowed = unless_wrote refusal.Record (every line_allowed lines) _ file most.1 in
      let labels = unless_wrote refusal.Labels (both_labels (line_items lines)) _ file allowed.1 in
      let fits = unless_wrote refusal.Output (file_fits (length (line_items lines)) room) (wrote (file_of p (line_items lines))) file labels.1 in
      record { most = most.0; allowed = allowed.0; labels = labels.0; is = cc fits.1 }

  lines_refuse : Refuses importing_refuses (import_lines p room lines)
  lines_refuse =
      let tested = unless_refuses importing_refuses in
      let after-5 = unless refusal.Output (file_fits (length (line_items lines)) room) (wrote (file_of p (line_items lines))) in
      let after-4 = unless refusal.Labels (both_labels (line_items lines)) after-5 in
      let after-12 = unless refusal.Record (every line_allowed lines) after-4 in
      tested refusal.Lines (leb (length lines) records_most) after-12 refl (λ q. omega arith) (λ q. omega arith)
      (tested refusal.Record (every line_allowed lines) after-4 refl (λ q. omega arith) (λ q. omega arith)
      (tested refusal.Labels (both_labels (line_items lines)) after-5 refl (λ q. omega arith) (λ q. omega arith)
      (tested refusal.Output (file_fits (length (line_items lines)) room) (wrote (file_of p (line_items lines))) refl (λ q. omega arith) (λ q. omega arith) tt)))

found_refuse : (p : Parameters) (room : ℕ) (found : Option (List Line)) → Refuses importing_refuses (import_found p room found)
found_refuse p room none = one_of_alone importing_refuses refusal.Text refl (λ q. omega arith) (λ q. omega arith)
found_refuse p room (some lines) = lines_refuse p room lines

-- the call's refusals are those listed for it, and carry no record
pub importing_refuses_lem : (p : Parameters) (text : List ℕ) (room : ℕ) → Refuses importing_refuses (importing p text room)
unfolding importing
importing_refuses_lem p text room =
    unless_refuses importing_refuses refusal.Header (parameters_allowed p) (import_found p room (text_lines p.used text)) refl (λ q. omega arith) (λ q. omega arith)
    (found_refuse p room (text_lines p.used text))

-- ---- "the result is a file as in (b)"

-- the lines of a text that is imported make up a file
lines_writable : (p : Parameters) (text : List ℕ) (lines : List Line) → parameters_allowed p ≡ true → HasForm p.used text lines
    → length lines ≤ records_most → every line_allowed lines ≡ true → both_labels (line_items lines) ≡ true → Writable p (line_items lines)
lines_writable p text lines a form most allowed labels =
    record {
      parameters = a;
      most = omega (arith, counted);
      sixteen = λ k h. ap (λ (item : Item). length item.features) (at k h) ∙ features-length (line k).groups;
      features = λ k h.
          ap (λ (item : Item). features_allowed p.used item.features) (at k h)
          ∙ features_judged p.used (line k) (every_at (line_formed p.used) past lines form.formed k (place k h)) (every_at line_allowed past lines allowed k (place k h));
      labels = labels;
    }
  where
    counted : length (line_items lines) ≡ length lines
    counted = length-map lines line_item

    place : (k : ℕ) → k < length (line_items lines) → k < length lines
    place k h = omega (arith, counted)

    past : Line
    past = record { label = LookedUp; groups = [] }

    line : ℕ → Line
    line k = get_or lines k past

    at : (k : ℕ) → k < length (line_items lines) → item_in (line_items lines) k ≡ line_item (line k)
    at k h = line_at lines k (place k h) past

-- what is known of a file that the call has written: it is that of the caller's parameters and the items of the text's lines, in their
-- order, and is read as these
pub record Imported (p : Parameters) (text file : List ℕ) : Type 0 where
  pub lines : List Line
  pub form : HasForm p.used text lines
  pub is : file ≡ file_of p (line_items lines)
  pub read : reading file ≡ accepted p (numbers_to (length lines)) (line_items lines)

pub imported : (p : Parameters) (text : List ℕ) (room : ℕ) (file : List ℕ) → importing p text room ≡ wrote file → Imported p text file
unfolding importing
imported p text room file e = by _ _ refl refl e
  where
    by : (a : Bool) (found : Option (List Line)) → parameters_allowed p ≡ a → text_lines p.used text ≡ found → unless refusal.Header a (import_found p room found) ≡ wrote file
        → Imported p text file
    by false found ea ef e = let z : ◌≡◌ {A = ℕ} 0 1 = cc in absurd (omega arith)
    by true none ea ef e = let z : ◌≡◌ {A = ℕ} 0 1 = cc in absurd (omega arith)
    by true (some lines) ea ef e =
        let held = passed p room lines file e in
        let form = (lines_exactly p.used text lines).0 ef in
        let sound = lines_writable p text lines ea form (leb-true (length lines) records_most held.most) held.allowed held.labels in
        record {
          lines = lines;
          form = form;
          is = sym held.is;
          read =
              ap reading (sym held.is) ∙ reads_back p (line_items lines) sound
              ∙ ap (λ (n : ℕ). accepted p (numbers_to n) (line_items lines)) (length-map lines line_item);
        }

-- ---- "nothing that a file can hold is beyond the form"

-- items whose features a file may hold, each as a line
module _ (d : ℕ) (small : d ≤ feature_count) where
  abbrev Held : List Item → Type 0
  Held items = (k : ℕ) → k < length items → (length (item_in items k).features ≡ feature_count) × (features_allowed d (item_in items k).features ≡ true)

  abbrev lines_of : List Item → List Line
  lines_of items = map (item_line d) items

  items_formed : (items : List Item) → Held items → every (line_formed d) (lines_of items) ≡ true
  unfolding every
  items_formed [] held = refl
  items_formed (item ∷ items) held =
      &&_true (item_formed d item small (features_most d item.features (held 0 (omega arith)).1 (held 0 (omega arith)).0))
      (items_formed items (λ k h. held (suc k) (omega arith)))

  items_allowed : (items : List Item) → Held items → every line_allowed (lines_of items) ≡ true
  unfolding every
  items_allowed [] held = refl
  items_allowed (item ∷ items) held =
      &&_true (item_allowed_lem d item small (features_most d item.features (held 0 (omega arith)).1 (held 0 (omega arith)).0))
      (items_allowed items (λ k h. held (suc k) (omega arith)))

  items_back : (items : List Item) → Held items → line_items (lines_of items) ≡ items
  items_back [] held = refl
  items_back (item ∷ items) held =
      λ j. item_back d item small (held 0 (omega arith)).0 (held 0 (omega arith)).1 j ∷ items_back items (λ k h. held (suc k) (omega arith)) j

-- Every accepted file's items, printed as such lines, import to the file of them.
pub items_imported : (file : List ℕ) (p : Parameters) (order : List ℕ) (items : List Item) → reading file ≡ accepted p order items
    → (room : ℕ) → file_length (length items) ≤ room → importing p (text_of (map (item_line p.used) items)) room ≡ wrote (file_of p items)
items_imported file p order items read room fits =
    let sound = accepted_writable file p order items read in
    let small = (allowed_ranges p sound.parameters).used_greatest in
    let held : Held p.used small items = λ k h. (sound.sixteen k h, sound.features k h) in
    let lines = lines_of p.used small items in
    let same = items_back p.used small items held in
    let counted = length-map items (item_line p.used) in
    imports_all p (text_of lines) room sound.parameters lines
    ((lines_exactly p.used (text_of lines) lines).1 (record { formed = items_formed p.used small items held; is = refl }))
    (le-leb (length lines) records_most (omega (arith, sound.most, counted)))
    (items_allowed p.used small items held)
    (ap both_labels same ∙ sound.labels)
    (le-leb (file_length (length lines)) room (omega (arith, counted)))
    ∙ ap (λ (list : List Item). wrote (file_of p list)) same
