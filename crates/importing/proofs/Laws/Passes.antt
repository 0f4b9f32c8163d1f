-- Laws of the passes over a text: what is known of its lines up to a place, and with one more. Assumes nothing.
use mathlib.Core.Path.{◌≡◌, refl, sym, ◌∙◌, ap, subst}
use mathlib.Core.Bool.{Bool, true, false, cond, not, ◌||◌, ◌&&◌}
use mathlib.Core.List.{List, [], ◌∷◌, ◌++◌, append_assoc, map-append}
use mathlib.Core.Option.{Option, none, some, some-injective, some-ne-none}
use Prim.Native.Nat.{ℕ, zero, suc, ◌+◌, ◌≤◌, ◌<◌}
use native.Mathlib.Nat.{add_assoc, add-zero, le_of_suc-le-suc}
use native.Mathlib.Decide.{dec_lt}
use native.Mathlib.Omega.{arith}
use lib.IntN.{ℤ}
use lib.ListN.{length, drop, get_or, drop_of_length-le, length-append, length-map}
use lib.Seq.{get_or-append-add}
use Rattle.std.specs.Prelude.{Err, IsSome, None, Ok, Some, is_none, is_some, ok_or, Option as Told}
use Rattle.std.specs.Bool.{then_some}
use Rattle.training_file.specs.declared.refusal.Refusal.{Refusal}
use Rattle.training_file.specs.declared.refusal.Refusal.TheVariants as refusal
use Rattle.training_file.specs.declared.item.Label.{Label}
use Rattle.training_file.specs.declared.item.Label.TheVariants.{LookedUp, PassedOver}
use Rattle.training_file.specs.declared.item.Item.{Item}
use Rattle.training_file.specs.Layout.{feature_count}
use Rattle.training_file.specs.Item.{item_in, labelled, same}
use Rattle.training_file.specs.Record.{every}
use Rattle.training_file.proofs.Laws.Item.{labels_sum}
use Rattle.training_file.proofs.Laws.Record.{every_at}
use Rattle.libsvm_text.specs.declared.line.LineRead.{LineRead}
use Rattle.libsvm_text.specs.declared.place.Found.{Found}
use Rattle.libsvm_text.specs.Form.{Line}
use Rattle.libsvm_text.specs.Items.{line_allowed, line_features, line_item, line_items}
use Rattle.libsvm_text.specs.Lines.{at_start, lines_from, text_lines}
use Rattle.libsvm_text.specs.Read.{LineFound, ReadsLine}
use Rattle.libsvm_text.proofs.Laws.Form.{every_append}
use Rattle.libsvm_text.proofs.Laws.Items.{features-length}
use Rattle.libsvm_text.proofs.Laws.Lines.{from_before, joined}
use Rattle.importing.specs.declared.passes.Judged.{Judged}
use Rattle.importing.specs.Judged.{Importable, found_items, found_looked_up, judged}

-- the line at a place, where one is read there
pub line_read : (d : ℕ) (text : List ℕ) (at : ℕ) (read : Told (Found LineRead)) {line : Found LineRead} → ReadsLine d text at read → read ≡ Some line → LineFound d text at line
line_read d text at read reads is = subst (ReadsLine d text at) is reads

pub line_told : (d : ℕ) (text : List ℕ) (at : ℕ) (read : Told (Found LineRead)) (why : Refusal) {line : Found LineRead} → ReadsLine d text at read → Ok line ≡ ok_or read why
    → LineFound d text at line
line_told d text at (Some read) why {line} reads e = line_read d text at (Some read) reads cc
line_told d text at None why reads e = absurd cc

-- the item of a line among those of all lines
pub line_at : (lines : List Line) (k : ℕ) → k < length lines → (past : Line) → item_in (line_items lines) k ≡ line_item (get_or lines k past)
line_at [] k h past = absurd (omega arith)
line_at (line ∷ lines) zero h past = refl
line_at (line ∷ lines) (suc k) h past = line_at lines k (le_of_suc-le-suc h) past

-- the lines of a text up to a place
pub record LinesTo (d : ℕ) (text : List ℕ) (at : ℕ) (lines : List Line) : Type 0 where
  pub found : text_lines d text ≡ lines_from d (at_start lines) (drop at text)
  pub within : at ≤ length text
  pub few : length lines ≤ at

module _ (d : ℕ) (text : List ℕ) where
  pub to_none : LinesTo d text 0 []
  to_none = record { found = refl; within = omega arith; few = omega arith }

  module _ (at : ℕ) (lines : List Line) (to : LinesTo d text at lines) where
    pub to_more : {read : Found LineRead} (next : LineFound d text at read) → LinesTo d text read.end (lines ++ (next.line ∷ []))
    to_more next =
        record {
          found = to.found ∙ next.found lines;
          within = next.within;
          few = omega (arith, length-append lines (next.line ∷ []), to.few, next.onward);
        }

    pub to_all : length text ≤ at → text_lines d text ≡ some lines
    unfolding lines_from
    to_all ends = to.found ∙ ap (lines_from d (at_start lines)) (drop_of_length-le text {i = at} ends)

-- ---- the first pass

labelled-append : (label : Label) (items : List Item) (item : Item) → labelled label (items ++ (item ∷ [])) ≡ labelled label items + same label item.label
unfolding labelled
labelled-append label [] item = omega arith
labelled-append label (first ∷ rest) item =
    ap (λ n. same label first.label + n) (labelled-append label rest item) ∙ sym (add_assoc (same label first.label) (labelled label rest) (same label item.label))

-- what the pass has counted up to a place
pub record JudgedTo (d : ℕ) (text : List ℕ) (wide : Bool) (count looked at : ℕ) : Type 0 where
  pub lines : List Line
  pub to : LinesTo d text at lines
  pub wide_is : wide ≡ not (every line_allowed lines)
  pub count_is : count ≡ length lines
  pub looked_is : looked ≡ labelled LookedUp (line_items lines)

module _ (d : ℕ) (text : List ℕ) where
  pub judged_none : JudgedTo d text false 0 0 0
  unfolding every labelled
  judged_none = record { lines = []; to = to_none d text; wide_is = refl; count_is = refl; looked_is = refl }

  module _ (wide : Bool) (count looked at : ℕ) (so_far : JudgedTo d text wide count looked at) where
    -- a line more, of which `more` says whether it is looked up
    pub judged_more : {read : Found LineRead} → LineFound d text at read → (wider : Bool) → wider ≡ wide || is_none read.what.features
        → (more : ℕ) → more ≡ same LookedUp read.what.label → JudgedTo d text wider (count + 1) (looked + more) read.end
    judged_more {read} next wider w more m =
        record {
          lines = so_far.lines ++ (next.line ∷ []);
          to = to_more d text at so_far.lines so_far.to next;
          wide_is =
              w ∙ (λ i. so_far.wide_is i || is_none (next.features_are i))
              ∙ either (every line_allowed so_far.lines) (line_allowed next.line) (line_features next.line.groups)
              ∙ ap not (sym (every_append line_allowed so_far.lines next.line));
          count_is = omega (arith, so_far.count_is, length-append so_far.lines (next.line ∷ []));
          looked_is =
              (λ i. so_far.looked_is i + (m ∙ ap (same LookedUp) next.label_is) i)
              ∙ sym (labelled-append LookedUp (line_items so_far.lines) (line_item next.line))
              ∙ ap (labelled LookedUp) (sym (map-append line_item so_far.lines (next.line ∷ [])));
        }
      where
        either : (s t : Bool) (features : List ℤ) → not s || is_none (cond t (Some features) None) ≡ not (s && t)
        either true true features = refl
        either true false features = refl
        either false t features = refl

    pub judged_all : {told : Told ℕ} → length text ≤ at → told ≡ then_some (not wide) looked → Ok (record { lines = count; looked_up = told }) ≡ judged (text_lines d text)
    judged_all {told} ends is =
        (λ i. Ok (record { lines = so_far.count_is i; looked_up = all i })) ∙ sym (ap judged (to_all d text at so_far.lines so_far.to ends))
      where
        by : (t : Bool) (n : ℕ) → then_some (not (not t)) n ≡ cond t (Some n) None
        by true n = refl
        by false n = refl

        all : told ≡ found_looked_up so_far.lines
        all =
            is ∙ (λ i. then_some (not (so_far.wide_is i)) (so_far.looked_is i))
            ∙ by (every line_allowed so_far.lines) (labelled LookedUp (line_items so_far.lines))

    -- no more lines are looked up than there are, and no more lines are there than bytes
    pub judged_few : (count ≤ at) × (looked ≤ at)
    judged_few =
        let all = labels_sum (line_items so_far.lines) in
        let same_count = length-map so_far.lines line_item in
        (omega (arith, so_far.count_is, so_far.to.few), omega (arith, so_far.looked_is, so_far.to.few, all, same_count))

-- ---- the second pass

module _ (d : ℕ) (text : List ℕ) (all : List Line) (found : text_lines d text ≡ some all) (at : ℕ) (lines : List Line) (to : LinesTo d text at lines) where
  -- the text goes on where more lines come
  pub goes_on_to : length lines < length all → at < length text
  goes_on_to more = by (dec_lt at (length text))
    where
      by : Dec (at < length text) → at < length text
      by (yes within) = within
      by (no past) =
          let every : length lines ≡ length all = ap length (some-injective lines all (sym (to_all d text at lines to (omega arith)) ∙ found)) in
          absurd (omega arith)

  module _ {read : Found LineRead} (next : LineFound d text at read) where
    -- all lines are those so far, the next and others
    others : (more : List Line) × (all ≡ lines ++ (next.line ∷ more))
    others = by (text_lines d (drop read.end text)) (sym found ∙ to.found ∙ next.found lines ∙ from_before (lines ++ (next.line ∷ [])) d (drop read.end text))
      where
        by : (rest : Option (List Line)) → some all ≡ joined (lines ++ (next.line ∷ [])) rest → (more : List Line) × (all ≡ lines ++ (next.line ∷ more))
        by none e = absurd (some-ne-none all e)
        by (some more) e = (more, some-injective all _ e ∙ append_assoc lines (next.line ∷ []) more)

    pub line_place : length lines < length all
    line_place = omega (arith, ap length others.1, length-append lines (next.line ∷ others.0))

    past : Line
    past = record { label = PassedOver; groups = [] }

    line_is : get_or all (length lines) past ≡ next.line
    line_is =
        ap (λ (l : List Line). get_or l (length lines) past) others.1
        ∙ ap (λ (k : ℕ). get_or (lines ++ (next.line ∷ others.0)) k past) (sym (add-zero (length lines)))
        ∙ get_or-append-add lines (next.line ∷ others.0) 0 past

    -- its features are those of the item at that place, as its label is
    features_there : every line_allowed all ≡ true → read.what.features ≡ Some (line_features next.line.groups)
    features_there allowed =
        next.features_are
        ∙ ap (λ t. cond t (Some (line_features next.line.groups)) None)
        (ap line_allowed (sym line_is) ∙ every_at line_allowed past all allowed (length lines) line_place)

    pub item_stands : every line_allowed all ≡ true → {features : List ℤ} → read.what.features ≡ Some features
        → ◌≡◌ {A = Item} (record { features = features; label = read.what.label }) (item_in (line_items all) (length lines))
    item_stands allowed {features} has =
        let same : features ≡ line_features next.line.groups = some_same (sym has ∙ features_there allowed) in
        (λ i. record { features = same i; label = next.label_is i })
        ∙ ap line_item (sym line_is) ∙ sym (line_at all (length lines) line_place past)
      where
        some_same : {a b : List ℤ} → Some a ≡ Some b → a ≡ b
        some_same e = cc

    pub features_stand : every line_allowed all ≡ true → IsSome read.what.features
    features_stand allowed = ap is_some (features_there allowed)

-- the items of a text that was judged
module _ (d : ℕ) (text : List ℕ) (count : ℕ) (told : Importable d text count) where
  pub items_are : found_items (text_lines d text) ≡ line_items told.lines
  items_are = ap found_items told.found

  pub items_counted : length (found_items (text_lines d text)) ≡ count
  items_counted = ap length items_are ∙ length-map told.lines line_item ∙ told.counted

  pub items_sixteen : (k : ℕ) → k < count → length (item_in (found_items (text_lines d text)) k).features ≡ feature_count
  items_sixteen k h =
      ap (λ (items : List Item). length (item_in items k).features) items_are
      ∙ ap (λ (item : Item). length item.features) (line_at told.lines k (omega (arith, told.counted)) nothing)
      ∙ features-length (get_or told.lines k nothing).groups
    where
      nothing : Line
      nothing = record { label = PassedOver; groups = [] }

-- ---- what the first pass tells

-- the lines of a text that it found to be of the form
pub record Known (found : Option (List Line)) (told : Judged) : Type 0 where
  pub lines : List Line
  pub is : found ≡ some lines
  pub count_is : told.lines ≡ length lines
  pub looked_is : told.looked_up ≡ found_looked_up lines

pub known_none : (found : Option (List Line)) {why : Refusal} → Err why ≡ judged found → (why ≡ refusal.Text) × (found ≡ none)
known_none none e = (cc, refl)
known_none (some lines) e = absurd cc

pub known_lines : (found : Option (List Line)) {told : Judged} → Ok told ≡ judged found → Known found told
known_lines none e = absurd cc
known_lines (some lines) {told} e =
    let same : told ≡ record { lines = length lines; looked_up = found_looked_up lines } = cc in
    record {
      lines = lines;
      is = refl;
      count_is = ap (λ (j : Judged). j.lines) same;
      looked_is = ap (λ (j : Judged). j.looked_up) same;
    }

-- whether a value is outside the range, by how many lines it tells to be looked up
module _ (lines : List Line) {told : Told ℕ} (is : told ≡ found_looked_up lines) where
  pub known_wide : {why : Refusal} → Err why ≡ ok_or told refusal.Record → (why ≡ refusal.Record) × (every line_allowed lines ≡ false)
  known_wide {why} e = by (every line_allowed lines) _ (e ∙ ap (λ o. ok_or o refusal.Record) is)
    where
      by : (t : Bool) (n : ℕ) → Err why ≡ ok_or (cond t (Some n) None) refusal.Record → (why ≡ refusal.Record) × (t ≡ false)
      by true n e = absurd cc
      by false n e = (cc, refl)

  pub known_looked : {looked : ℕ} → Ok looked ≡ ok_or told refusal.Record → (every line_allowed lines ≡ true) × (looked ≡ labelled LookedUp (line_items lines))
  known_looked {looked} e = by (every line_allowed lines) _ (e ∙ ap (λ o. ok_or o refusal.Record) is)
    where
      by : (t : Bool) (n : ℕ) → Ok looked ≡ ok_or (cond t (Some n) None) refusal.Record → (t ≡ true) × (looked ≡ n)
      by true n e = (refl, cc)
      by false n e = absurd cc
