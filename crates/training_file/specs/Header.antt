-- The header judged and read: refusals 1 and 2 of document 01, and the parameters that the header holds. Assumes nothing.
use Rattle.std.specs.Prelude.{◌≡◌, Bool, ◌&&◌, List, ℕ, ◌+◌, ◌*◌, ◌≤◌, leb, eqb, length}
use Rattle.training_file.specs.declared.parameters.Parameters.{Parameters}
use Rattle.training_file.specs.Layout.{ceiling_units, features_in_use, first_record, grid_units, kernel_byte, records_stored, second_ceiling_units, spare, step_budget, tolerance_units}
use Rattle.training_file.specs.Parameters.{kernel_allowed, kernel_of_byte, parameters_allowed, records_most}

-- refusal 1: "under 32 bytes, m over 256, or a length other than 32 + 20 × m"
unfoldable pub length_allowed : List ℕ → Bool
length_allowed file =
    leb 32 (length file) && leb (records_stored file) records_most && eqb (length file) (32 + 20 * records_stored file)

abbrev pub parameters_of : List ℕ → Parameters
parameters_of file =
    record {
      used = features_in_use file;
      kernel = kernel_of_byte (kernel_byte file);
      grid = grid_units file;
      ceiling = ceiling_units file;
      second_ceiling = second_ceiling_units file;
      tolerance = tolerance_units file;
      budget = step_budget file;
    }

-- refusal 2: "a header field beyond its range, or a spare byte not 0". The first record is "0 to m".
unfoldable pub header_allowed : List ℕ → Bool
header_allowed file =
    leb (first_record file) (records_stored file)
    && eqb (spare file) 0
    && kernel_allowed (kernel_byte file)
    && parameters_allowed (parameters_of file)

-- that the file has the length of its header and the records stored, which whoever reads a record relies on
pub record WholeFile (file : List ℕ) : Type 0 where
  pub most : records_stored file ≤ records_most
  pub whole : length file ≡ 32 + 20 * records_stored file
