-- Laws of the steps by which the lines of a text are found. Assumes nothing.
use mathlib.Core.Path.{◌≡◌, refl, sym, ◌∙◌, ap}
use mathlib.Core.Bool.{Bool, true, false, ◌&&◌, cond}
use mathlib.Core.List.{List, [], ◌∷◌, ◌++◌, append_assoc, append-nil}
use mathlib.Core.Option.{Option, none}
use Prim.Native.Nat.{ℕ}
use lib.Dec.{eqb}
use lib.ListN.{get_or}
use Rattle.integers.proofs.Laws.Truth.{&&_both}
use Rattle.training_file.specs.Record.{every}
use Rattle.libsvm_text.specs.Form.{Group, Line, digit, value_formed}
use Rattle.libsvm_text.specs.Lines.{State, after_label, in_number, in_value, is_unread, lines_from, onward, step, with_group, wrong}

-- ---- choices with nothing

pub chosen : (x : Option (List Line)) {t : Bool} → t ≡ true → cond t x none ≡ x
chosen x h = ap (λ t. cond t x none) h

pub refused : (x : Option (List Line)) {t : Bool} → t ≡ false → cond t x none ≡ none
refused x h = ap (λ t. cond t x none) h

none_either : (t : Bool) → ◌≡◌ {A = Option (List Line)} (cond t none none) none
none_either true = refl
none_either false = refl

module _ (d : ℕ) where
  -- what is wrong stays so
  pub wrong_stays : (text : List ℕ) → lines_from d wrong text ≡ none
  unfolding lines_from step
  wrong_stays [] = refl
  wrong_stays (byte ∷ text) = wrong_stays text

  -- a byte, by the step that it makes
  pub by_step : (state : State) (byte : ℕ) (text : List ℕ) {next : State} → step d state byte ≡ next → lines_from d state (byte ∷ text) ≡ lines_from d next text
  unfolding lines_from
  by_step state byte text e = ap (λ s. lines_from d s text) e

  -- a step that a test decides, where the other way is wrong
  pub decided : (test : Bool) (state : State) (text : List ℕ) → lines_from d (cond test state wrong) text ≡ cond test (lines_from d state text) none
  decided true state text = refl
  decided false state text = wrong_stays text

  -- digits one after the other, in a state that each of them makes grow
  grown_by : (grown : List ℕ → State) → ((digits : List ℕ) (byte : ℕ) → digit byte ≡ true → step d (grown digits) byte ≡ grown (digits ++ (byte ∷ [])))
      → (so_far digits rest : List ℕ) → every digit digits ≡ true → lines_from d (grown so_far) (digits ++ rest) ≡ lines_from d (grown (so_far ++ digits)) rest
  unfolding every
  grown_by grown grows so_far [] rest h = ap (λ l. lines_from d (grown l) rest) (sym (append-nil so_far))
  grown_by grown grows so_far (byte ∷ more) rest h =
      let both = &&_both (digit byte) (every digit more) h in
      by_step (grown so_far) byte (more ++ rest) (grows so_far byte both.0)
      ∙ grown_by grown grows (so_far ++ (byte ∷ [])) more rest both.1
      ∙ ap (λ l. lines_from d (grown l) rest) (append_assoc so_far (byte ∷ []) more)

  module _ (before : List Line) (line : Line) where
    pub number_digits : (so_far digits rest : List ℕ) → every digit digits ≡ true
        → lines_from d (in_number before line so_far) (digits ++ rest) ≡ lines_from d (in_number before line (so_far ++ digits)) rest
    unfolding step
    number_digits = grown_by (in_number before line) (λ digits byte h. rw h)

    -- a value as far as it is read
    abbrev pub partly : (feature : List ℕ) (minus : Bool) (digits : List ℕ) → State
    partly feature minus digits = in_value before line (record { feature = feature; value = record { minus = minus; digits = digits } })

    pub value_digits : (feature : List ℕ) (minus : Bool) (so_far digits rest : List ℕ) → every digit digits ≡ true
        → lines_from d (partly feature minus so_far) (digits ++ rest) ≡ lines_from d (partly feature minus (so_far ++ digits)) rest
    unfolding step
    value_digits feature minus = grown_by (partly feature minus) (λ digits byte h. rw h)

    -- a byte that is no digit ends a value, where it is no minus sign that stands first in it, and the text's end does
    pub value_ends : (group : Group) (text : List ℕ) → digit (get_or text 0 0) ≡ false → eqb (get_or text 0 0) 45 && is_unread group.value ≡ false
        → lines_from d (in_value before line group) text
        ≡ cond (value_formed group.value) (lines_from d (after_label before (with_group line group)) text) none
    unfolding lines_from step
    value_ends group [] h k = sym (none_either (value_formed group.value))
    value_ends group (byte ∷ text) h k =
        (λ i. lines_from d (cond (h i) more (cond (k i) (partly group.feature true []) next)) text)
        ∙ decided (value_formed group.value) (onward before (with_group line group) byte) text
      where
        more : State
        more = partly group.feature group.value.minus (group.value.digits ++ (byte ∷ []))

        next : State
        next = cond (value_formed group.value) (onward before (with_group line group) byte) wrong
