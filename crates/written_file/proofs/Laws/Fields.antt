-- Laws of numbers as bytes: each of the two ways is the other's inverse. Assumes nothing.
use mathlib.Core.Path.{◌≡◌, ◌∙◌, ap, ap₂}
use mathlib.Core.List.{List, [], ◌∷◌, ◌++◌, map}
use Prim.Native.Nat.{ℕ, ◌+◌, ◌*◌, ◌/◌, ◌%◌, ◌<◌}
use native.Mathlib.Nat.{add_comm, mod-add-div, mul_comm}
use native.Mathlib.Omega.{arith}
use lib.Arith.{digits_div, digits_mod}
use lib.IntN.{ℤ, pos}
use lib.ListN.{get_or, length-map, get_or-map}
use lib.Seq.{ext_get_or}
use lib.Signed.{mag}
use Rattle.training_file.specs.Layout.{byte_at, byte_of_signed, signed_byte, signed_most}
use Rattle.training_file.proofs.Laws.Layout.{signed_back, signed_byte_back}
use Rattle.written_file.specs.Fields.{bytes2, bytes4, bytes8, signed_bytes}

-- ---- a number and its two halves, at any width

module _ (half : ℕ) where
  pub halves_back : (number : ℕ) → number % half + half * (number / half) ≡ number
  halves_back number = mod-add-div number half

  turned : (low high : ℕ) → low + half * high ≡ high * half + low
  turned low high = add_comm low (half * high) ∙ ap (λ (k : ℕ). k + low) (mul_comm half high)

  low_back : (low high : ℕ) → low < half → (low + half * high) % half ≡ low
  low_back low high h = ap (λ (k : ℕ). k % half) (turned low high) ∙ digits_mod high h

  high_back : (low high : ℕ) → low < half → (low + half * high) / half ≡ high
  high_back low high h = ap (λ (k : ℕ). k / half) (turned low high) ∙ digits_div high h

  -- what a half each is put as, put one after the other
  pub put_halves : (put : ℕ → List ℕ) (low high : ℕ) → low < half
      → put ((low + half * high) % half) ++ put ((low + half * high) / half) ≡ put low ++ put high
  put_halves put low high h = λ i. put (low_back low high h i) ++ put (high_back low high h i)

-- ---- what two, four and eight bytes say, in the words of Layout

abbrev two : ℕ → ℕ → ℕ
two a b = a + 256 * b

abbrev four : ℕ → ℕ → ℕ → ℕ → ℕ
four a b c d = two a b + 65536 * two c d

abbrev eight : ℕ → ℕ → ℕ → ℕ → ℕ → ℕ → ℕ → ℕ → ℕ
eight a b c d e f g h = four a b c d + 4294967296 * four e f g h

pub four_back : (n : ℕ) → four (n % 65536 % 256) (n % 65536 / 256) (n / 65536 % 256) (n / 65536 / 256) ≡ n
four_back n =
    ap₂ (λ (low high : ℕ). low + 65536 * high) (halves_back 256 (n % 65536)) (halves_back 256 (n / 65536)) ∙ halves_back 65536 n

pub eight_back : (n : ℕ) →
    eight (n % 4294967296 % 65536 % 256) (n % 4294967296 % 65536 / 256) (n % 4294967296 / 65536 % 256) (n % 4294967296 / 65536 / 256)
    (n / 4294967296 % 65536 % 256) (n / 4294967296 % 65536 / 256) (n / 4294967296 / 65536 % 256) (n / 4294967296 / 65536 / 256) ≡ n
eight_back n =
    ap₂ (λ (low high : ℕ). low + 4294967296 * high) (four_back (n % 4294967296)) (four_back (n / 4294967296)) ∙ halves_back 4294967296 n

-- the bytes of such a number are these bytes
pub bytes2_back : (a b : ℕ) → a < 256 → bytes2 (two a b) ≡ a ∷ b ∷ []
bytes2_back a b h = put_halves 256 (λ (byte : ℕ). byte ∷ []) a b h

pub bytes4_back : (a b c d : ℕ) → a < 256 → b < 256 → c < 256 → bytes4 (four a b c d) ≡ a ∷ b ∷ c ∷ d ∷ []
bytes4_back a b c d h k l =
    put_halves 65536 bytes2 (two a b) (two c d) (omega arith) ∙ (λ i. bytes2_back a b h i ++ bytes2_back c d l i)

pub bytes8_back : (a b c d e f g h : ℕ) → a < 256 → b < 256 → c < 256 → d < 256 → e < 256 → f < 256 → g < 256
    → bytes8 (eight a b c d e f g h) ≡ a ∷ b ∷ c ∷ d ∷ e ∷ f ∷ g ∷ h ∷ []
bytes8_back a b c d e f g h ha hb hc hd he hf hg =
    put_halves 4294967296 bytes4 (four a b c d) (four e f g h) (omega arith)
    ∙ (λ i. bytes4_back a b c d ha hb hc i ++ bytes4_back e f g h he hf hg i)

-- ---- lists of signed numbers

pub signed_at : (numbers : List ℤ) (i : ℕ) → byte_at (signed_bytes numbers) i ≡ byte_of_signed (get_or numbers i (pos 0))
signed_at numbers i = get_or-map byte_of_signed numbers i (pos 0)

-- numbers of −128 to 127 are read back from their bytes
pub all_signed_back : (numbers : List ℤ) → ((i : ℕ) → mag (get_or numbers i (pos 0)) < signed_most) → map signed_byte (signed_bytes numbers) ≡ numbers
all_signed_back numbers small =
    ext_get_or (pos 0) (map signed_byte (signed_bytes numbers)) numbers
    (length-map (signed_bytes numbers) signed_byte ∙ length-map numbers byte_of_signed)
    (λ i l. get_or-map signed_byte (signed_bytes numbers) i 0 ∙ ap signed_byte (signed_at numbers i) ∙ signed_back (get_or numbers i (pos 0)) (small i))

-- bytes are those of the numbers that they hold
pub all_signed_byte_back : (bytes : List ℕ) → ((i : ℕ) → byte_at bytes i < 256) → signed_bytes (map signed_byte bytes) ≡ bytes
all_signed_byte_back bytes small =
    ext_get_or 0 (signed_bytes (map signed_byte bytes)) bytes
    (length-map (map signed_byte bytes) byte_of_signed ∙ length-map bytes signed_byte)
    (λ i l. signed_at (map signed_byte bytes) i ∙ ap byte_of_signed (get_or-map signed_byte bytes i 0) ∙ signed_byte_back (byte_at bytes i) (small i))
