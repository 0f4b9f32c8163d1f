-- The rows of the candidates, and the first candidate by them: where a row holds one, and the first of that row. Assumes nothing.
use mathlib.Core.Path.{◌≡◌, refl}
use mathlib.Core.Bool.{Bool, true, false}
use mathlib.Core.List.{List}
use mathlib.Core.Option.{Option, none, some}
use Prim.Native.Nat.{ℕ}
use Rattle.integers.proofs.Laws.Truth.{clash}
use Rattle.integers.specs.Extremum.{first}
use Rattle.dual_problem.specs.Problem.{Problem}
use Rattle.working_pair.specs.Step.{candidate, first_candidate, some_place}

module _ (P : Problem) (a : List ℕ) where
  -- the first candidate with i, and whether there is one
  unfoldable pub row : ℕ → Option ℕ
  row i = first P.count (candidate P a i)

  unfoldable pub in_row : ℕ → Bool
  in_row i = some_place (row i)

  pub row_false : (i : ℕ) → in_row i ≡ false → row i ≡ none
  unfolding in_row
  row_false i h = go (row i) h
    where
      go : (o : Option ℕ) → some_place o ≡ false → o ≡ none
      go none e = refl
      go (some j) e = clash refl e

  pub row_true : (i : ℕ) → in_row i ≡ true → (j : ℕ) × (row i ≡ some j)
  unfolding in_row
  row_true i h = go (row i) h
    where
      go : (o : Option ℕ) → some_place o ≡ true → (j : ℕ) × (o ≡ some j)
      go none e = clash e refl
      go (some j) e = (j, refl)

  pub at_place : {i j : ℕ} → first P.count in_row ≡ some i → row i ≡ some j → first_candidate P a ≡ some (i, j)
  unfolding first_candidate in_row row
  at_place e f = rw (e, first_candidate) (rw f)

  pub no_place : first P.count in_row ≡ none → first_candidate P a ≡ none
  unfolding first_candidate in_row row
  no_place e = rw (e, first_candidate)
