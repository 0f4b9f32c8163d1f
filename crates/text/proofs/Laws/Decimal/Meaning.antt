-- That the definition of decimal numbers is right: the digits read back as the number, and the first is no zero unless the number is 0.
-- Assumes nothing.
use mathlib.Core.Path.{◌≡◌, refl, sym, ◌∙◌, ap, subst}
use mathlib.Core.List.{List, [], ◌∷◌, ◌++◌}
use Prim.Native.Nat.{ℕ, zero, suc, ◌+◌, ◌-◌, ◌*◌, ◌/◌, ◌%◌, ◌^◌, ◌≤◌, ◌<◌}
use native.Mathlib.Decide.{dec_le}
use native.Mathlib.Nat.{div-add-mod', le-div_iff_mul-le}
use native.Mathlib.Omega.{arith}
use lib.ListN.{get_or}
use Rattle.text.specs.Decimal.{digits, decimal, value}
use Rattle.text.proofs.Laws.Decimal.{digits_one, digits_more, tenth_below}

value-append : (so_far : ℕ) (xs ys : List ℕ) → value so_far (xs ++ ys) ≡ value (value so_far xs) ys
unfolding value
value-append so_far [] ys = refl
value-append so_far (x ∷ xs) ys = value-append (so_far * 10 + (x - 48)) xs ys

digits_value : (places number : ℕ) → number < 10 ^ places → value 0 (digits places number) ≡ number
unfolding digits value
digits_value zero number h = omega arith
digits_value (suc places) number h = by (dec_le 10 number) (digits_value places (number / 10) (tenth_below places number h))
  where
    by : Dec (10 ≤ number) → value 0 (digits places (number / 10)) ≡ number / 10 → value 0 (digits (suc places) number) ≡ number
    by (no l) e = let one : value 0 ((48 + number) ∷ []) ≡ number = omega arith in ap (value 0) (digits_one places number (omega arith)) ∙ one
    by (yes l) e =
        let last : number / 10 * 10 + ((48 + number % 10) - 48) ≡ number = omega (arith, div-add-mod' number 10) in
        ap (value 0) (digits_more places number l) ∙ value-append 0 (digits places (number / 10)) ((48 + number % 10) ∷ [])
        ∙ ap (λ v. v * 10 + ((48 + number % 10) - 48)) e ∙ last

pub decimal_value : (number : ℕ) → number < 2 ^ 64 → value 0 (decimal number) ≡ number
unfolding decimal
decimal_value number h = digits_value 20 number (omega arith)

-- the first byte of two texts is that of the first text, where it has one above `0`
first_of : (xs ys : List ℕ) → 48 < get_or xs 0 0 → 48 < get_or (xs ++ ys) 0 0
first_of [] ys h = absurd (omega arith)
first_of (x ∷ xs) ys h = h

digits_first : (places number : ℕ) → number < 10 ^ places → 1 ≤ number → 48 < get_or (digits places number) 0 0
unfolding digits
digits_first zero number h k = absurd (omega arith)
digits_first (suc places) number h k = by (dec_le 10 number) (digits_first places (number / 10) (tenth_below places number h))
  where
    by : Dec (10 ≤ number) → (1 ≤ number / 10 → 48 < get_or (digits places (number / 10)) 0 0) → 48 < get_or (digits (suc places) number) 0 0
    by (no l) first = subst (λ d. 48 < get_or d 0 0) (sym (digits_one places number (omega arith))) (omega arith)
    by (yes l) first =
        subst (λ d. 48 < get_or d 0 0) (sym (digits_more places number l))
        (first_of (digits places (number / 10)) ((48 + number % 10) ∷ []) (first ((le-div_iff_mul-le {k = 10} (omega arith)).1 (omega arith))))

pub no_leading_zero : (number : ℕ) → number < 2 ^ 64 → 1 ≤ number → 48 < get_or (decimal number) 0 0
unfolding decimal
no_leading_zero number h k = digits_first 20 number (omega arith) k
