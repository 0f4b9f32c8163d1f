-- Laws of the form: what is formed, with one more at its end. Assumes nothing.
use mathlib.Core.Path.{◌≡◌, refl, sym, ◌∙◌, ap}
use mathlib.Core.Bool.{Bool, true, ◌&&◌, not, and_assoc, and-true}
use mathlib.Core.List.{List, [], ◌∷◌, ◌++◌, append_assoc, append-nil}
use Prim.Native.Nat.{ℕ}
use lib.Dec.{eqb, leb, ltb}
use Rattle.integers.proofs.Laws.Truth.{&&_left, &&_right, &&_true, clash}
use Rattle.training_file.specs.Record.{every}
use Rattle.libsvm_text.specs.Form.{Group, Line, digit, group_formed, group_text, groups_text, line_formed, line_text, number, numeral, rising, text_of}
use Rattle.libsvm_text.specs.Lines.{last_of, with_group}

-- ---- numbers

pub numeral_digits : (digits : List ℕ) → numeral digits ≡ true → every digit digits ≡ true
unfolding numeral every
numeral_digits [] h = clash h refl
numeral_digits (first ∷ []) h = and-true (digit first) ∙ h
numeral_digits (first ∷ second ∷ more) h = &&_right (not (eqb first 48)) (every digit (first ∷ second ∷ more)) h

-- ---- one more at the end

-- a test that holds of each of a list, and of one more
pub every_append : {A : Type 0} (test : A → Bool) (list : List A) (last : A) → every test (list ++ (last ∷ [])) ≡ every test list && test last
unfolding every
every_append test [] last = and-true (test last)
every_append test (first ∷ rest) last =
    ap (λ t. test first && t) (every_append test rest last) ∙ sym (and_assoc (test first) (every test rest) (test last))

pub last-append : (before : ℕ) (groups : List Group) (group : Group) → last_of before (groups ++ (group ∷ [])) ≡ number group.feature
unfolding last_of
last-append before [] group = refl
last-append before (first ∷ rest) group = last-append (number first.feature) rest group

pub rising-append : (d before : ℕ) (groups : List Group) (group : Group)
    → rising d before (groups ++ (group ∷ []))
    ≡ rising d before groups && (ltb (last_of before groups) (number group.feature) && leb (number group.feature) d)
unfolding rising last_of
rising-append d before [] group = and-true (ltb before (number group.feature) && leb (number group.feature) d)
rising-append d before (first ∷ rest) group =
    ap (λ t. ltb before (number first.feature) && leb (number first.feature) d && t) (rising-append d (number first.feature) rest group)
    ∙ sym (and_assoc (ltb before (number first.feature) && leb (number first.feature) d) (rising d (number first.feature) rest) _)

-- a formed line with a formed group more, whose number fits
pub line_more : (d : ℕ) (line : Line) (group : Group) → line_formed d line ≡ true → group_formed group ≡ true
    → ltb (last_of 0 line.groups) (number group.feature) && leb (number group.feature) d ≡ true → line_formed d (with_group line group) ≡ true
unfolding line_formed
line_more d line group formed g fits =
    let each = &&_left (every group_formed line.groups) (rising d 0 line.groups) formed in
    let rise = &&_right (every group_formed line.groups) (rising d 0 line.groups) formed in
    &&_true (every_append group_formed line.groups group ∙ &&_true each g) (rising-append d 0 line.groups group ∙ &&_true rise fits)

-- ---- texts

pub groups_text-append : (groups : List Group) (group : Group) → groups_text (groups ++ (group ∷ [])) ≡ groups_text groups ++ group_text group
unfolding groups_text
groups_text-append [] group = append-nil (group_text group)
groups_text-append (first ∷ rest) group =
    ap (λ t. group_text first ++ t) (groups_text-append rest group) ∙ sym (append_assoc (group_text first) (groups_text rest) (group_text group))

pub text-append : (lines : List Line) (line : Line) → text_of (lines ++ (line ∷ [])) ≡ text_of lines ++ line_text line
unfolding text_of
text-append [] line = append-nil (line_text line)
text-append (first ∷ rest) line = ap (λ t. line_text first ++ t) (text-append rest line) ∙ sym (append_assoc (line_text first) (text_of rest) (line_text line))
