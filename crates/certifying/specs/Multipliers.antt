-- Document 01, refusals 6 to 8: judging multipliers against a problem. Assumes nothing.
use Rattle.std.specs.Prelude.{Bool, cond, List, ℕ, leb, eqb, ℤ, pos, ◌*ℤ◌, length, Result, Ok, Err}
use Rattle.integers.specs.Zero.{is_zero}
use Rattle.integers.specs.Places.{all}
use Rattle.integers.specs.Sum.{sum}
use Rattle.training_file.specs.declared.refusal.Refusal.{Refusal}
use Rattle.training_file.specs.declared.refusal.Refusal.TheVariants as refusal
use Rattle.dual_problem.specs.Problem.{Problem, y, at}

-- the sum of a_i × y_i
abbrev pub balance : Problem → (ℕ → ℕ) → ℤ
balance P a = sum P.count (λ i. pos (a i) *ℤ y P i)

-- whether none of the first n multipliers is over "the item's own ceiling" (document 02, request (f))
abbrev pub within_ceilings : ℕ → Problem → (ℕ → ℕ) → Bool
within_ceilings n P a = all n (λ i. leb (a i) (P.ceiling i))

-- "6: .. multipliers not n in number; 7: a multiplier over c; 8: the sum of a × y is not 0", the first that applies
abbrev pub judgement : Problem → List ℕ → Result Unit Refusal
judgement P a =
    cond (eqb (length a) P.count)
    (cond (within_ceilings P.count P (at a))
    (cond (is_zero (balance P (at a))) (Ok tt) (Err refusal.Balance))
    (Err refusal.Multiplier))
    (Err refusal.ListLength)
