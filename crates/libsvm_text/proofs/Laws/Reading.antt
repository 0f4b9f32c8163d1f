-- Laws of reading the groups of a line, one by one. Assumes nothing.
use mathlib.Core.Path.{◌≡◌, refl, sym, ◌∙◌, ap}
use mathlib.Core.Bool.{Bool, true, false, ◌&&◌, not, cond, and-true, and-false}
use mathlib.Core.List.{List, [], ◌∷◌, ◌++◌}
use mathlib.Core.Option.{Option, none}
use Prim.Native.Nat.{ℕ, ◌+◌, ◌-◌, ◌≤◌, ◌<◌}
use native.Mathlib.Nat.{add-zero}
use native.Mathlib.Omega.{arith}
use lib.Dec.{eqb, leb, ltb}
use lib.IntN.{ℤ, pos}
use lib.ListN.{drop, get_or, length, length-replicate, length-set, replicate, set}
use lib.Seq.{drop-drop, get_or-drop}
use borrow.Author.Tests.{eq-eqb, le-leb, leb-true, lt-ltb, ltb-true}
use Rattle.std.specs.Prelude.{None, Some}
use Rattle.integers.proofs.Laws.Truth.{&&_left, &&_right, &&_true, clash}
use Rattle.training_file.specs.declared.item.Label.{Label}
use Rattle.training_file.specs.Layout.{feature_count}
use Rattle.training_file.specs.Record.{every}
use Rattle.libsvm_text.specs.declared.group.GroupRead.{GroupRead}
use Rattle.libsvm_text.specs.declared.place.Found.{Found}
use Rattle.libsvm_text.specs.Form.{Group, Line, number, numeral, rising, value_formed}
use Rattle.libsvm_text.specs.Items.{group_allowed, line_features, value_of}
use Rattle.libsvm_text.specs.Lines.{after_label, in_number, last_of, lines_from, with_group}
use Rattle.libsvm_text.specs.Places.{text_ends}
use Rattle.libsvm_text.specs.Read.{GroupFound, GroupsBetween, group_leads, group_length, leading, leading_group}
use Rattle.libsvm_text.proofs.Laws.Numeral.{goes_on_lem}
use Rattle.libsvm_text.proofs.Laws.Groups.{group_read, group_within, labelled, space_read}
use Rattle.libsvm_text.proofs.Laws.Steps.{chosen, refused}
use Rattle.libsvm_text.proofs.Laws.Features.{features_more, features_none}
use Rattle.libsvm_text.proofs.Laws.Form.{every_append, last-append, rising-append}

-- the byte at a place is the first one from there on
pub first_from : (text : List ℕ) (at : ℕ) → get_or (drop at text) 0 0 ≡ get_or text at 0
first_from text at = get_or-drop at text 0 0 ∙ ap (λ k. get_or text k 0) (add-zero at)

-- ---- the groups so far, and what was read of them

pub record GroupsSoFar (d : ℕ) (text : List ℕ) (start : ℕ) (features : List ℤ) (wide : Bool) (last at : ℕ) : Type 0 where
  pub groups : List Group
  pub between : GroupsBetween d text start at groups
  pub last_is : last ≡ last_of 0 groups
  pub wide_is : wide ≡ not (every group_allowed groups)
  pub features_are : every group_allowed groups ≡ true → features ≡ line_features groups
  pub sixteen : length features ≡ feature_count

pub so_far_none : (d : ℕ) (text : List ℕ) (start : ℕ) → start < length text → GroupsSoFar d text start (replicate feature_count (pos 0)) false 0 start
unfolding every rising last_of
so_far_none d text start h =
    record {
      groups = [];
      between = record { found = λ before label. refl; rises = refl; onward = omega arith; within = h };
      last_is = refl;
      wide_is = refl;
      features_are = λ allowed. features_none;
      sixteen = length-replicate feature_count (pos 0);
    }

-- the feature number of a group that leads is within its bounds
module _ (d last : ℕ) (text : List ℕ) (leads : group_leads d last text ≡ true) where
  abbrev n : ℕ
  n = number (leading text)

  abbrev colon : Bool
  colon = eqb (get_or text (length (leading text)) 0) 58

  fits : numeral (leading text) && ltb last n && leb n d ≡ true
  fits = &&_right colon _ (&&_left (colon && (numeral (leading text) && ltb last n && leb n d)) (value_formed (leading_group text).value) leads)

  pub leads_above : last < n
  leads_above = ltb-true last n (&&_right (numeral (leading text)) (ltb last n) (&&_left (numeral (leading text) && ltb last n) (leb n d) fits))

  pub leads_most : n ≤ d
  leads_most = leb-true n d (&&_right (numeral (leading text) && ltb last n) (leb n d) fits)

module _ (d : ℕ) (text : List ℕ) (start : ℕ) (features : List ℤ) (wide : Bool) (last at : ℕ) (so_far : GroupsSoFar d text start features wide last at)
    (space : get_or text at 0 ≡ 32) where
  abbrev rest : List ℕ
  rest = drop (at + 1) text

  abbrev followed : List Line → Label → Option (List Line)
  followed before label =
      lines_from d (after_label before (record { label = label; groups = so_far.groups ++ (leading_group rest ∷ []) })) (drop (at + 1 + group_length rest) text)

  -- another group follows
  another : (before : List Line) (label : Label)
      → lines_from d (labelled before label) (drop start text) ≡ cond (group_leads d last rest) (followed before label) none
  another before label =
      let line : Line = record { label = label; groups = so_far.groups } in
      so_far.between.found before label
      ∙ space_read d before line (drop at text) (eq-eqb (get_or (drop at text) 0 0) 32 (first_from text at ∙ space))
      ∙ ap (lines_from d (in_number before line [])) (drop-drop 1 at text)
      ∙ group_read d before line rest
      ∙ (λ i.
      cond (group_leads d (sym so_far.last_is i) rest)
      (lines_from d (after_label before (with_group line (leading_group rest))) (drop-drop (group_length rest) (at + 1) text i))
      none)

  pub so_far_wrong : group_leads d last rest ≡ false
      → (before : List Line) (label : Label) → lines_from d (labelled before label) (drop start text) ≡ none
  so_far_wrong h before label = another before label ∙ refused (followed before label) h

  -- and is one of the form
  module _ (ends : text_ends text ≡ true) (read : Found GroupRead) (reads : GroupFound d last text (at + 1) read) where
    more_onward : at < read.end
    more_onward = omega (arith, reads.end_is)

    more_within : read.end < length text
    more_within =
        let next = goes_on_lem text at (record { ends = ends; place = so_far.between.within }) (λ e. omega (arith, sym e ∙ space)) in
        omega (arith, reads.end_is, (group_within d last text (at + 1) next reads.leads_is).place)

    abbrev group : Group
    group = leading_group rest

    abbrev more : List Group
    more = so_far.groups ++ (group ∷ [])

    above : last_of 0 so_far.groups < number (leading rest)
    above = rw (← so_far.last_is) (leads_above d last rest reads.leads_is)

    more_between : GroupsBetween d text start read.end more
    more_between =
        record {
          found =
              λ before label.
              another before label
              ∙ chosen (followed before label) reads.leads_is
              ∙ ap (λ end. lines_from d (after_label before (record { label = label; groups = more })) (drop end text)) (sym reads.end_is);
          rises =
              rising-append d 0 so_far.groups group
              ∙ &&_true so_far.between.rises (&&_true (lt-ltb _ _ above) (le-leb _ _ (leads_most d last rest reads.leads_is)));
          onward = omega (arith, so_far.between.onward, more_onward);
          within = more_within;
        }

    -- whether the group's value is within the range is what is told of it
    more_allowed : (t : Bool) → group_allowed group ≡ t → every group_allowed more ≡ every group_allowed so_far.groups && t
    more_allowed t e = every_append group_allowed so_far.groups group ∙ ap (λ t. every group_allowed so_far.groups && t) e

    -- the groups with it, where its feature is stored
    pub so_far_more : d ≤ feature_count → {feature stored : ℤ} → read.what.feature ≡ Some feature → stored ≡ feature
        → GroupsSoFar d text start (set features (read.what.number - 1) stored) wide read.what.number read.end
    so_far_more range {feature} {stored} has same =
        record {
          groups = more;
          between = more_between;
          last_is = reads.number_is ∙ sym (last-append 0 so_far.groups group);
          wide_is = so_far.wide_is ∙ ap not (sym (more_allowed true allowed ∙ and-true _));
          features_are = λ each.
              (λ i.
              set (so_far.features_are (sym (and-true _) ∙ sym (more_allowed true allowed) ∙ each) i) (reads.number_is i - 1) ((same ∙ told) i))
              ∙ features_more d so_far.groups group so_far.between.rises above (omega (arith, leads_most d last rest reads.leads_is));
          sixteen = simp length-set so_far.sixteen;
        }
      where
        by : (t : Bool) → Some feature ≡ cond t (Some (value_of group.value)) None → (t ≡ true) × (feature ≡ value_of group.value)
        by true e = (refl, cc)
        by false e = absurd cc

        both : (group_allowed group ≡ true) × (feature ≡ value_of group.value)
        both = by (group_allowed group) (sym has ∙ reads.feature_is)

        allowed : group_allowed group ≡ true
        allowed = both.0

        told : feature ≡ value_of group.value
        told = both.1

    -- and where there is none
    pub so_far_wide : read.what.feature ≡ None → GroupsSoFar d text start features true read.what.number read.end
    so_far_wide has =
        record {
          groups = more;
          between = more_between;
          last_is = reads.number_is ∙ sym (last-append 0 so_far.groups group);
          wide_is = sym (ap not far);
          features_are = λ each. clash each far;
          sixteen = so_far.sixteen;
        }
      where
        by : (t : Bool) → None ≡ cond t (Some (value_of group.value)) None → t ≡ false
        by true e = absurd cc
        by false e = refl

        far : every group_allowed more ≡ false
        far = more_allowed false (by (group_allowed group) (sym has ∙ reads.feature_is)) ∙ and-false _
