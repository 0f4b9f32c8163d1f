-- A text with lines ends with a newline. Assumes nothing.
use mathlib.Core.Path.{◌≡◌, refl, sym, ◌∙◌, ap}
use mathlib.Core.Bool.{true, false, ◌||◌, or-true}
use mathlib.Core.List.{List, [], ◌∷◌, ◌++◌, append_assoc, append-nil}
use mathlib.Core.Option.{Option, none, some}
use Prim.Native.Nat.{ℕ, suc, ◌-◌}
use native.Mathlib.Omega.{arith}
use lib.Dec.{eqb}
use lib.ListN.{get_or, length}
use borrow.Author.Tests.{eq-eqb}
use Rattle.integers.proofs.Laws.Truth.{clash}
use Rattle.libsvm_text.specs.Form.{Line, groups_text, line_text, sign_byte, text_of}
use Rattle.libsvm_text.specs.Lines.{text_lines}
use Rattle.libsvm_text.specs.Places.{text_ends}
use Rattle.libsvm_text.proofs.Laws.Lines.{lines_exactly}

-- the last byte of a text that ends with a newline
last_byte : (front : List ℕ) → get_or (front ++ (10 ∷ [])) (length (front ++ (10 ∷ [])) - 1) 0 ≡ 10
last_byte front = ap (λ k. get_or (front ++ (10 ∷ [])) k 0) (before_last front) ∙ there front
  where
    there : (front : List ℕ) → get_or (front ++ (10 ∷ [])) (length front) 0 ≡ 10
    there [] = refl
    there (byte ∷ more) = there more

    one_more : (front : List ℕ) → length (front ++ (10 ∷ [])) ≡ suc (length front)
    one_more [] = refl
    one_more (byte ∷ more) = ap suc (one_more more)

    before_last : (front : List ℕ) → length (front ++ (10 ∷ [])) - 1 ≡ length front
    before_last front = omega (arith, one_more front)

newline_ends : (front : List ℕ) → text_ends (front ++ (10 ∷ [])) ≡ true
newline_ends front =
    ap (λ t. eqb (length (front ++ (10 ∷ []))) 0 || t) (eq-eqb _ 10 (last_byte front)) ∙ or-true (eqb (length (front ++ (10 ∷ []))) 0)

-- a line's text before its newline
abbrev line_front : Line → List ℕ
line_front line = sign_byte line.label ∷ 49 ∷ groups_text line.groups

-- lines after a newline
lines_end : (front : List ℕ) (lines : List Line) → text_ends ((front ++ (10 ∷ [])) ++ text_of lines) ≡ true
unfolding text_of
lines_end front [] = ap text_ends (append-nil (front ++ (10 ∷ []))) ∙ newline_ends front
lines_end front (line ∷ more) =
    ap text_ends
    (sym (append_assoc (front ++ (10 ∷ [])) (line_text line) (text_of more))
    ∙ ap (λ t. t ++ text_of more) (sym (append_assoc (front ++ (10 ∷ [])) (line_front line) (10 ∷ []))))
    ∙ lines_end ((front ++ (10 ∷ [])) ++ line_front line) more

text_ends_lem : (lines : List Line) → text_ends (text_of lines) ≡ true
unfolding text_of
text_ends_lem [] = refl
text_ends_lem (line ∷ more) = lines_end (line_front line) more

pub found_ends : (d : ℕ) (text : List ℕ) (lines : List Line) → text_lines d text ≡ some lines → text_ends text ≡ true
found_ends d text lines e = ap text_ends ((lines_exactly d text lines).0 e).is ∙ text_ends_lem lines

pub unended_none : (d : ℕ) (text : List ℕ) → text_ends text ≡ false → text_lines d text ≡ none
unended_none d text unended = by (text_lines d text) refl
  where
    by : (found : Option (List Line)) → text_lines d text ≡ found → text_lines d text ≡ none
    by none e = e
    by (some lines) e = clash (found_ends d text lines e) unended
