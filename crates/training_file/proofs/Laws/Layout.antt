-- Laws of the layout: a byte and the signed number that it holds. Assumes nothing.
use mathlib.Core.Path.{◌≡◌, ap}
use Prim.Native.Nat.{ℕ, ◌-◌, ◌<◌}
use native.Mathlib.Decide.{dec_lt}
use native.Mathlib.Omega.{arith}
use borrow.Author.Tests.{le-ltb, lt-ltb}
use lib.IntN.{ℤ, pos, negsuc}
use lib.Signed.{mag}
use Rattle.training_file.specs.Layout.{byte_of_signed, signed_byte, signed_most}

-- the byte of a number of −128 to 127 holds that number: `mag` of −1 − k is k
pub signed_back : (z : ℤ) → mag z < signed_most → signed_byte (byte_of_signed z) ≡ z
signed_back (pos n) h = rw (lt-ltb n 128 h)
signed_back (negsuc k) h = rw (le-ltb (255 - k) 128 (omega arith)) (ap negsuc (omega arith))

-- a byte is that of the number that it holds
pub signed_byte_back : (byte : ℕ) → byte < 256 → byte_of_signed (signed_byte byte) ≡ byte
signed_byte_back byte h = by (dec_lt byte 128)
  where
    by : Dec (byte < 128) → byte_of_signed (signed_byte byte) ≡ byte
    by (yes l) = rw (lt-ltb byte 128 l)
    by (no l) = rw (le-ltb byte 128 (omega arith)) (omega arith)
