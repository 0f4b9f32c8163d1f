-- Laws of reading a line: what its label, its groups and its end make of it. Assumes nothing.
use mathlib.Core.Path.{◌≡◌, refl, sym, ◌∙◌, ap}
use mathlib.Core.Bool.{Bool, true, false, ◌&&◌, ◌||◌, cond}
use mathlib.Core.List.{List, [], ◌∷◌, ◌++◌}
use mathlib.Core.Option.{Option, none}
use Prim.Native.Nat.{ℕ, ◌+◌}
use native.Mathlib.Omega.{arith}
use lib.Dec.{eqb}
use lib.ListN.{drop, get_or, length-drop}
use lib.Seq.{drop-drop, get_or-drop}
use borrow.Author.Tests.{eq-eqb, ne_eqb}
use Rattle.std.specs.Prelude.{ℤ, Option as Maybe, None, Some}
use Rattle.training_file.specs.declared.item.Label.{Label}
use Rattle.training_file.specs.declared.item.Label.TheVariants.{LookedUp, PassedOver}
use Rattle.libsvm_text.specs.declared.place.Found.{Found}
use Rattle.libsvm_text.specs.Form.{Line}
use Rattle.libsvm_text.specs.Lines.{at_start, lines_from}
use Rattle.libsvm_text.specs.Places.{Within}
use Rattle.libsvm_text.specs.Read.{GroupsFound, LineFound, label_at}
use Rattle.libsvm_text.proofs.Laws.Groups.{end_read, label_read, labelled}
use Rattle.libsvm_text.proofs.Laws.Steps.{chosen, refused}
use Rattle.libsvm_text.proofs.Laws.Reading.{first_from}

-- a line, where the text has a byte
module _ (d : ℕ) (text : List ℕ) (start : ℕ) (has : Within text start) where
  abbrev labels : Bool
  labels = (eqb (get_or text start 0) 43 || eqb (get_or text start 0) 45) && eqb (get_or text (start + 1) 0) 49

  abbrev said : Label
  said = cond (eqb (get_or text start 0) 43) LookedUp PassedOver

  line_label : (before : List Line)
      → lines_from d (at_start before) (drop start text) ≡ cond labels (lines_from d (labelled before said) (drop (start + 2) text)) none
  line_label before =
      label_read d before (drop start text) (omega (arith, length-drop start text, has.place))
      ∙ (λ i.
      cond ((eqb (first_from text start i) 43 || eqb (first_from text start i) 45) && eqb (get_or-drop start text 1 0 i) 49)
      (lines_from d (labelled before (cond (eqb (first_from text start i) 43) LookedUp PassedOver)) (drop-drop 2 start text i))
      none)

  pub line_unlabelled : label_at text start ≡ None → (before : List Line) → lines_from d (at_start before) (drop start text) ≡ none
  line_unlabelled h before = line_label before ∙ refused (lines_from d (labelled before said) (drop (start + 2) text)) (by labels h)
    where
      by : (t : Bool) → cond t (Some said) None ≡ None → t ≡ false
      by true e = absurd cc
      by false e = refl

  module _ {label : Label} (has-label : label_at text start ≡ Some label) where
    label_there : (labels ≡ true) × (label ≡ said)
    label_there = by labels has-label
      where
        by : (t : Bool) → cond t (Some said) None ≡ Some label → (t ≡ true) × (label ≡ said)
        by true e = (refl, cc)
        by false e = absurd cc

    line_labelled : (before : List Line) → lines_from d (at_start before) (drop start text) ≡ lines_from d (labelled before label) (drop (start + 2) text)
    line_labelled before =
        line_label before ∙ chosen (lines_from d (labelled before said) (drop (start + 2) text)) label_there.0
        ∙ ap (λ l. lines_from d (labelled before l) (drop (start + 2) text)) (sym label_there.1)

    pub line_groupless : ((before : List Line) (label : Label) → lines_from d (labelled before label) (drop (start + 2) text) ≡ none)
        → (before : List Line) → lines_from d (at_start before) (drop start text) ≡ none
    line_groupless none-there before = line_labelled before ∙ none-there before label

    module _ {read : Found (Maybe (List ℤ))} (groups : GroupsFound d text (start + 2) read) where
      abbrev line : Line
      line = record { label = label; groups = groups.groups }

      abbrev onward : List Line → Option (List Line)
      onward before = lines_from d (at_start (before ++ (line ∷ []))) (drop (read.end + 1) text)

      line_end : (before : List Line) → lines_from d (at_start before) (drop start text) ≡ cond (eqb (get_or text read.end 0) 10) (onward before) none
      line_end before =
          line_labelled before
          ∙ groups.between.found before label
          ∙ end_read d before line (drop read.end text) (ap (λ byte. eqb byte 32) (first_from text read.end) ∙ groups.last)
          ∙ (λ i. cond (eqb (first_from text read.end i) 10) (lines_from d (at_start (before ++ (line ∷ []))) (drop-drop 1 read.end text i)) none)

      pub line_endless : (get_or text read.end 0 ≡ 10 → ⊥) → (before : List Line) → lines_from d (at_start before) (drop start text) ≡ none
      line_endless other before = line_end before ∙ refused (onward before) (ne_eqb (get_or text read.end 0) 10 other)

      pub line_found : get_or text read.end 0 ≡ 10
          → LineFound d text start (record { what = record { label = label; features = read.what }; end = read.end + 1 })
      line_found newline =
          record {
            line = line;
            found = λ before. line_end before ∙ chosen (onward before) (eq-eqb (get_or text read.end 0) 10 newline);
            label_is = refl;
            features_are = groups.features_are;
            onward = omega (arith, groups.between.onward);
            within = omega (arith, groups.between.within);
          }
