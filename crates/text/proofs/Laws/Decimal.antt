-- Laws of decimal numbers. Assumes nothing.
pub mod Meaning
use mathlib.Core.Bool.{cond}
use mathlib.Core.Path.{◌≡◌, refl, sym, ◌∙◌, ap}
use mathlib.Core.List.{[], ◌∷◌, ◌++◌}
use Prim.Native.Nat.{ℕ, zero, suc, ◌+◌, ◌-◌, ◌/◌, ◌%◌, ◌^◌, ◌≤◌, ◌<◌}
use native.Mathlib.Decide.{dec_le}
use native.Mathlib.Nat.{div-lt_iff_lt-mul, pow-suc}
use native.Mathlib.Numerals.{add-one}
use native.Mathlib.Omega.{arith}
use borrow.Author.Tests.{le-ltb, lt-ltb}
use lib.IntN.{ℤ, pos, negsuc}
use mir.Syntax.{w64}
use mir.Facts.{to_z-of_z}
use mir.Val.{SFits, to_z, of_z}
use Rattle.std.specs.Fmt as std
use Rattle.std.proofs.lemmas.Fmt.{decimal_by_steps}
use lib.ListN.{length, length-append}
use Rattle.text.specs.Decimal.{digits, decimal, signed_decimal}

-- a number of one digit, and one of more
pub digits_one : (places number : ℕ) → number < 10 → digits (suc places) number ≡ (48 + number) ∷ []
unfolding digits
digits_one places number h = ap (λ b. cond b ((48 + number) ∷ []) (digits places (number / 10) ++ ((48 + number % 10) ∷ []))) (lt-ltb number 10 h)

pub digits_more : (places number : ℕ) → 10 ≤ number → digits (suc places) number ≡ digits places (number / 10) ++ ((48 + number % 10) ∷ [])
unfolding digits
digits_more places number h = ap (λ b. cond b ((48 + number) ∷ []) (digits places (number / 10) ++ ((48 + number % 10) ∷ []))) (le-ltb number 10 h)

pub tenth_below : (k number : ℕ) → number < 10 ^ suc k → number / 10 < 10 ^ k
tenth_below k number h = (div-lt_iff_lt-mul {k = 10} (omega arith)).1 (rw pow-suc at h)

-- more places than a number has digits change nothing
digits_places : (k number : ℕ) → number < 10 ^ suc k → digits (suc (suc k)) number ≡ digits (suc k) number
digits_places zero number h = digits_one 1 number (omega arith) ∙ sym (digits_one 0 number (omega arith))
digits_places (suc k) number h = by (dec_le 10 number) (digits_places k (number / 10) (tenth_below (suc k) number h))
  where
    by : Dec (10 ≤ number) → digits (suc (suc k)) (number / 10) ≡ digits (suc k) (number / 10) → digits (suc (suc (suc k))) number ≡ digits (suc (suc k)) number
    by (no l) e = let m : number < 10 = omega arith in digits_one (suc (suc k)) number m ∙ sym (digits_one (suc k) number m)
    by (yes l) e = digits_more (suc (suc k)) number l ∙ ap (λ d. d ++ ((48 + number % 10) ∷ [])) e ∙ sym (digits_more (suc k) number l)

pub decimal_one : (number : ℕ) → number < 10 → decimal number ≡ (48 + number) ∷ []
unfolding decimal
decimal_one number h = digits_one 19 number h

pub decimal_more : (number : ℕ) → 10 ≤ number → number < 2 ^ 64 → decimal number ≡ decimal (number / 10) ++ ((48 + number % 10) ∷ [])
unfolding decimal
decimal_more number l h = digits_more 19 number l ∙ ap (λ d. d ++ ((48 + number % 10) ∷ [])) (sym (digits_places 18 (number / 10) (tenth_below 19 number (omega arith))))

-- what std prints of a number
pub printed : (number : ℕ) → number < 2 ^ 64 → std.decimal number ≡ decimal number
printed number h =
    decimal_by_steps (λ n text. n < 2 ^ 64 → text ≡ decimal n) (λ n l _. sym (decimal_one n l))
    (λ n text l tenth low. ap (λ d. d ++ ((48 + n % 10) ∷ [])) (tenth (omega arith)) ∙ sym (decimal_more n l low)) number h h

-- and of a signed one, which the code holds as an unsigned one
printed_sign : (number : ℤ) → SFits w64 number → std.signed_decimal number ≡ signed_decimal number
unfolding signed_decimal
printed_sign (pos n) h = printed n (omega (arith, h))
printed_sign (negsuc n) h = ap (λ d. 45 ∷ d) (printed (suc n) (omega (arith, h)))

pub printed_signed : (number : ℤ) → SFits w64 number → std.signed_decimal (to_z w64 (of_z w64 number)) ≡ signed_decimal number
printed_signed number h = ap std.signed_decimal (to_z-of_z {w = w64} {z = number} h) ∙ printed_sign number h

-- ---- lengths
digits-length : (places number : ℕ) → length (digits places number) ≤ places
unfolding digits
digits-length zero number = omega arith
digits-length (suc places) number = by (dec_le 10 number) (digits-length places (number / 10))
  where
    by : Dec (10 ≤ number) → length (digits places (number / 10)) ≤ places → length (digits (suc places) number) ≤ suc places
    by (no l) h = omega (arith, ap length (digits_one places number (omega arith)))
    by (yes l) h = omega (arith, ap length (digits_more places number l), length-append (digits places (number / 10)) ((48 + number % 10) ∷ []))

-- a number below a power of ten has no more digits than the power has zeros
digits_few : (places k number : ℕ) → number < 10 ^ suc k → length (digits places number) ≤ suc k
unfolding digits
digits_few zero k number h = omega arith
digits_few (suc places) zero number h = omega (arith, ap length (digits_one places number (omega arith)))
digits_few (suc places) (suc k) number h = by (dec_le 10 number) (digits_few places k (number / 10) (tenth_below (suc k) number h))
  where
    by : Dec (10 ≤ number) → length (digits places (number / 10)) ≤ suc k → length (digits (suc places) number) ≤ suc (suc k)
    by (no l) few = omega (arith, ap length (digits_one places number (omega arith)))
    by (yes l) few = omega (arith, ap length (digits_more places number l), length-append (digits places (number / 10)) ((48 + number % 10) ∷ []))

pub decimal-length : (number : ℕ) → length (decimal number) ≤ 20
unfolding decimal
decimal-length number = digits-length 20 number

pub decimal_few : (number : ℕ) → number < 100000 → length (decimal number) ≤ 5
unfolding decimal
decimal_few number h = digits_few 20 4 number (omega arith)

pub signed-length : (number : ℤ) → length (signed_decimal number) ≤ 21
unfolding signed_decimal
signed-length (pos number) = omega (arith, decimal-length number)
signed-length (negsuc number) = omega (arith, decimal-length (suc number))
