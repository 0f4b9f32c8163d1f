-- Laws of texts taken apart: a part ends at the first mark, and no digit is a mark below 48. Assumes nothing.
pub mod Meaning
use mathlib.Core.Bool.{true, false, cond, true≢false}
use mathlib.Core.Path.{◌≡◌, refl, sym, ◌∙◌, ap}
use mathlib.Core.List.{List, [], ◌∷◌, ◌++◌}
use Prim.Native.Nat.{ℕ, zero, suc, ◌+◌, ◌/◌, ◌%◌, ◌<◌}
use native.Mathlib.Omega.{arith}
use borrow.Author.Tests.{eq-eqb, ne_eqb}
use lib.Dec.{eqb, ltb}
use lib.IntN.{ℤ, pos, negsuc}
use Rattle.integers.proofs.Laws.Truth.{chose_either, chose_second}
use Rattle.text.specs.Decimal.{digits, decimal, signed_decimal}
use Rattle.text.specs.Parts.{before, free, parts}

module _ (mark : ℕ) where
  -- ---- a byte at a time
  free_byte : (x : ℕ) (xs : List ℕ) → free mark (x ∷ xs) ≡ true → (eqb x mark ≡ false) × (free mark xs ≡ true)
  unfolding free
  free_byte x xs h = chose_second (eqb x mark) (λ e. true≢false (sym e)) h

  pub free-∷ : (x : ℕ) (xs : List ℕ) → eqb x mark ≡ false → free mark xs ≡ true → free mark (x ∷ xs) ≡ true
  unfolding free
  free-∷ x xs e h = ap (λ b. cond b false (free mark xs)) e ∙ h

  pub free-append : (xs ys : List ℕ) → free mark xs ≡ true → free mark ys ≡ true → free mark (xs ++ ys) ≡ true
  unfolding free
  free-append [] ys h k = k
  free-append (x ∷ xs) ys h k = let f = free_byte x xs h in free-∷ x (xs ++ ys) f.0 (free-append xs ys f.1 k)

  -- the text before a mark is the first part
  pub parts_first : (xs rest : List ℕ) → free mark xs ≡ true → parts mark (xs ++ (mark ∷ rest)) ≡ xs ∷ parts mark rest
  unfolding before parts
  parts_first [] rest h = ap (λ b. cond b ([] ∷ parts mark rest) (before mark (parts mark rest))) (eq-eqb mark mark refl)
  parts_first (x ∷ xs) rest h =
      let f = free_byte x xs h in
      ap (λ b. cond b ([] ∷ parts mark (xs ++ (mark ∷ rest))) (before x (parts mark (xs ++ (mark ∷ rest))))) f.0 ∙ ap (before x) (parts_first xs rest f.1)

  -- a text without a mark is one part
  pub parts_one : (xs : List ℕ) → free mark xs ≡ true → parts mark xs ≡ xs ∷ []
  unfolding before parts
  parts_one [] h = refl
  parts_one (x ∷ xs) h = let f = free_byte x xs h in ap (λ b. cond b ([] ∷ parts mark xs) (before x (parts mark xs))) f.0 ∙ ap (before x) (parts_one xs f.1)

  -- ---- a digit is no mark below 48, nor is the minus sign one below 45
  digits_free : mark < 48 → (places number : ℕ) → free mark (digits places number) ≡ true
  unfolding free digits
  digits_free l zero number = refl
  digits_free l (suc places) number =
      chose_either (λ text. free mark text ≡ true) (ltb number 10) (free-∷ (48 + number) [] (above number) refl)
      (free-append (digits places (number / 10)) ((48 + number % 10) ∷ []) (digits_free l places (number / 10)) (free-∷ (48 + number % 10) [] (above (number % 10)) refl))
    where
      above : (digit : ℕ) → eqb (48 + digit) mark ≡ false
      above digit = ne_eqb (48 + digit) mark (λ e. absurd (omega arith))

  pub decimal_free : mark < 48 → (number : ℕ) → free mark (decimal number) ≡ true
  unfolding decimal
  decimal_free l number = digits_free l 20 number

  pub signed_free : mark < 45 → (number : ℤ) → free mark (signed_decimal number) ≡ true
  unfolding signed_decimal
  signed_free l (pos number) = decimal_free (omega arith) number
  signed_free l (negsuc number) = free-∷ 45 (decimal (suc number)) (ne_eqb 45 mark (λ e. absurd (omega arith))) (decimal_free (omega arith) (suc number))
