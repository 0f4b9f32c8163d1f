-- What the machine makes of the G that a state holds: each reads back as itself, and so does the slope of a pair. Assumes nothing.
use mathlib.Core.Path.{◌≡◌}
use mathlib.Core.List.{List}
use Prim.Native.Nat.{ℕ, ◌*◌, ◌≤◌, ◌<◌}
use native.Mathlib.Omega.{arith}
use lib.IntN.{ℤ, pos, nat_abs, ◌-ℤ◌}
use lib.ListN.{get_or}
use mir.Syntax.{w64}
use mir.Val.{to_z, of_z}
use Rattle.integers.specs.Gram.{Gram}
use Rattle.integers.proofs.Laws.Bounds.{reads_back, -ℤ-bound}
use Rattle.reading.specs.Reading.{reading}
use Rattle.reading.specs.Calls.{items_in}
use Rattle.dual_problem.specs.declared.problem.FileProblem.{FileProblem}
use Rattle.dual_problem.specs.Size.{gradient_most}
use Rattle.dual_problem.specs.Problem.{Problem, gradient, at}
use Rattle.dual_problem.specs.Given.{count_in, problem_in}
use Rattle.dual_problem.proofs.Laws.Problem.{problem_gram}
use Rattle.dual_problem.proofs.Laws.FileProblem.{fit_listed, gradient_size}
use Rattle.working_pair.specs.Step.{slope}
use Rattle.working_pair.specs.State.{State}

module _ {f : FileProblem} {a : List ℕ} {g : List ℤ} (s : State f a g) where
  abbrev P : Problem
  P = problem_in f

  -- the kernel values are a Gram form
  pub state_gram : Gram P.count P.kernel
  state_gram = problem_gram f.parameters (items_in (reading f.file.now)) f.listed.in_range

  pub kept_size : (k : ℕ) → k < count_in f → nat_abs (gradient P (at a) k) ≤ gradient_most
  kept_size = gradient_size f.file.now f.order.now (count_in f) f.parameters a (fit_listed f a s.fit)

  pub kept_reads : (k : ℕ) → k < count_in f → to_z w64 (of_z w64 (get_or g k (pos 0))) ≡ gradient P (at a) k
  kept_reads k l = reads_back w64 (s.kept k l) (omega (arith, kept_size k l))

  module _ {i j : ℕ} (i_within : i < count_in f) (j_within : j < count_in f) where
    pub slope_is : to_z w64 (of_z w64 (get_or g i (pos 0))) -ℤ to_z w64 (of_z w64 (get_or g j (pos 0))) ≡ slope P a i j
    slope_is = λ d. kept_reads i i_within d -ℤ kept_reads j j_within d

    pub slope_size : nat_abs (slope P a i j) ≤ 2 * gradient_most
    slope_size = -ℤ-bound (gradient P (at a) i) (gradient P (at a) j) (kept_size i i_within) (kept_size j j_within)

    pub slope_reads : to_z w64 (of_z w64 (to_z w64 (of_z w64 (get_or g i (pos 0))) -ℤ to_z w64 (of_z w64 (get_or g j (pos 0))))) ≡ slope P a i j
    slope_reads = reads_back w64 slope_is (omega (arith, slope_size))
