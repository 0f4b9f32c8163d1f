-- Laws of the header: refusals 1 and 2 by their parts. Assumes nothing.
use mathlib.Core.Path.{◌≡◌}
use mathlib.Core.Bool.{true, false, ◌&&◌, and-false}
use mathlib.Core.List.{List}
use Prim.Native.Nat.{ℕ, ◌+◌, ◌*◌, ◌≤◌, ◌<◌}
use native.Mathlib.Omega.{arith}
use lib.Dec.{leb, eqb}
use lib.ListN.{length}
use borrow.Author.Tests.{le-leb, lt-leb, eq-eqb, leb-true, eqb-true}
use Rattle.integers.proofs.Laws.Truth.{&&_both, &&_left, &&_right}
use Rattle.training_file.specs.Layout.{first_record, kernel_byte, records_stored, spare}
use Rattle.training_file.specs.Parameters.{kernel_allowed, parameters_allowed, records_most}
use Rattle.training_file.specs.Header.{WholeFile, header_allowed, length_allowed, parameters_of}

module _ (file : List ℕ) where
  -- ---- refusal 1

  pub many_refused : records_most < records_stored file → length_allowed file ≡ false
  unfolding length_allowed
  many_refused h = rw (lt-leb (records_stored file) records_most h, and-false (leb 32 (length file)))

  pub length_allowed_lem : records_stored file ≤ records_most → length file ≡ 32 + 20 * records_stored file → length_allowed file ≡ true
  unfolding length_allowed
  length_allowed_lem h e =
      rw (le-leb 32 (length file) (omega arith), le-leb (records_stored file) records_most h, eq-eqb (length file) (32 + 20 * records_stored file) e)

  pub allowed_whole : length_allowed file ≡ true → WholeFile file
  unfolding length_allowed
  allowed_whole h =
      let both = &&_both (leb 32 (length file) && leb (records_stored file) records_most) (eqb (length file) (32 + 20 * records_stored file)) h in
      record {
        most = leb-true (records_stored file) records_most (&&_both (leb 32 (length file)) (leb (records_stored file) records_most) both.0).1;
        whole = eqb-true (length file) (32 + 20 * records_stored file) both.1;
      }

  -- ---- refusal 2

  pub parameters_decide : first_record file ≤ records_stored file → spare file ≡ 0 → kernel_allowed (kernel_byte file) ≡ true
      → header_allowed file ≡ parameters_allowed (parameters_of file)
  unfolding header_allowed
  parameters_decide f s k = rw (le-leb (first_record file) (records_stored file) f, eq-eqb (spare file) 0 s, k)

  pub header_parameters : header_allowed file ≡ true → parameters_allowed (parameters_of file) ≡ true
  unfolding header_allowed
  header_parameters h =
      (&&_both (leb (first_record file) (records_stored file) && eqb (spare file) 0 && kernel_allowed (kernel_byte file))
      (parameters_allowed (parameters_of file)) h).1

  to_kernel : header_allowed file ≡ true → leb (first_record file) (records_stored file) && eqb (spare file) 0 && kernel_allowed (kernel_byte file) ≡ true
  unfolding header_allowed
  to_kernel h =
      &&_left (leb (first_record file) (records_stored file) && eqb (spare file) 0 && kernel_allowed (kernel_byte file)) (parameters_allowed (parameters_of file)) h

  to_spare : header_allowed file ≡ true → leb (first_record file) (records_stored file) && eqb (spare file) 0 ≡ true
  to_spare h = &&_left (leb (first_record file) (records_stored file) && eqb (spare file) 0) (kernel_allowed (kernel_byte file)) (to_kernel h)

  pub header_kernel : header_allowed file ≡ true → kernel_allowed (kernel_byte file) ≡ true
  header_kernel h = &&_right (leb (first_record file) (records_stored file) && eqb (spare file) 0) (kernel_allowed (kernel_byte file)) (to_kernel h)

  pub header_spare : header_allowed file ≡ true → spare file ≡ 0
  header_spare h = eqb-true (spare file) 0 (&&_right (leb (first_record file) (records_stored file)) (eqb (spare file) 0) (to_spare h))

  -- "A first record over m is refused with 2"
  pub header_first : header_allowed file ≡ true → first_record file ≤ records_stored file
  header_first h = leb-true (first_record file) (records_stored file) (&&_left (leb (first_record file) (records_stored file)) (eqb (spare file) 0) (to_spare h))
