-- The parameters as numbers alone, as a caller in C has them. Assumes nothing.
use Rattle.std.specs.Prelude.{Result}
use Rattle.training_file.specs.declared.parameters.Kernel.{Kernel}
use Rattle.training_file.specs.declared.parameters.Parameters.{Parameters}
use Rattle.training_file.specs.declared.refusal.Refusal.{Refusal}
use Rattle.training_file.specs.declared.refusal.Refusal.TheVariants.{Header}
use Rattle.training_file.specs.Parameters.{byte_of_kernel, kernel_allowed, kernel_of_byte}
use Rattle.training_file.specs.Answers.{ok_if}
use Rattle.lookahead_c.specs.declared.parameters.ParameterNumbers.{ParameterNumbers}

abbrev pub parameter_numbers : Parameters → ParameterNumbers
parameter_numbers p =
    record {
      used = p.used;
      kernel = byte_of_kernel p.kernel;
      grid = p.grid;
      ceiling = p.ceiling;
      second_ceiling = p.second_ceiling;
      tolerance = p.tolerance;
      budget = p.budget;
    }

-- what stands for them after a refusal
abbrev pub no_parameters : ParameterNumbers
no_parameters = record { used = 0; kernel = 0; grid = 0; ceiling = 0; second_ceiling = 0; tolerance = 0; budget = 0 }

-- the parameters that such numbers say, with a kernel in the place of its byte
abbrev pub parameters_by : ParameterNumbers → Kernel → Parameters
parameters_by q kernel =
    record {
      used = q.used;
      kernel = kernel;
      grid = q.grid;
      ceiling = q.ceiling;
      second_ceiling = q.second_ceiling;
      tolerance = q.tolerance;
      budget = q.budget;
    }

-- the parameters that such numbers say, where the kernel's byte is allowed
abbrev pub parameters_in : ParameterNumbers → Parameters
parameters_in q = parameters_by q (kernel_of_byte q.kernel)

-- the same, or the refusal of a byte that names no kernel
abbrev pub parameters_answer : ParameterNumbers → Result Parameters Refusal
parameters_answer q = ok_if (kernel_allowed q.kernel) (parameters_in q) Header
