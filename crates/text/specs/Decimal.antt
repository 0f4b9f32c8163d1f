-- Numbers in decimal, without leading zeros, as a list of bytes, and the number that such bytes say. Assumes nothing.
use Rattle.std.specs.Prelude.{cond, List, [], ◌∷◌, ◌++◌, ℕ, zero, suc, ◌+◌, ◌-◌, ◌*◌, ◌/◌, ◌%◌, ltb, ℤ, pos, negsuc}

-- the digits of a number below 10 ^ places, the most significant one first; 48 is the byte of `0`
unfoldable pub digits : ℕ → ℕ → List ℕ
digits zero number = []
digits (suc places) number = cond (ltb number 10) ((48 + number) ∷ []) (digits places (number / 10) ++ ((48 + number % 10) ∷ []))

-- every number of the program is one of 64 bits, and 2 ^ 64 has twenty digits
unfoldable pub decimal : ℕ → List ℕ
decimal number = digits 20 number

-- a minus sign, byte 45, for a negative number
unfoldable pub signed_decimal : ℤ → List ℕ
signed_decimal (pos number) = decimal number
signed_decimal (negsuc number) = 45 ∷ decimal (suc number)

-- the number that digits say, after those that said `so_far`
unfoldable pub value : ℕ → List ℕ → ℕ
value so_far [] = so_far
value so_far (digit ∷ more) = value (so_far * 10 + (digit - 48)) more
