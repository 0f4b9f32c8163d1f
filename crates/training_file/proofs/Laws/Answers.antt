-- Laws of the answers: what an answer says of its test. Assumes nothing.
use mathlib.Core.Path.{◌≡◌}
use mathlib.Core.Bool.{Bool, true, false}
use Prim.Native.Nat.{ℕ}
use native.Mathlib.Omega.{arith}
use Rattle.std.proofs.Common.{Ok, Err}
use Rattle.integers.proofs.Laws.Truth.{chose_first, chose_second}
use Rattle.training_file.specs.declared.refusal.Refusal.{Refusal}
use Rattle.training_file.specs.Answers.{ok_if}

module _ {A : Type 0} (test : Bool) (value : A) (why : Refusal) where
  pub if_ok : (x : A) → ok_if test value why ≡ Ok x → (test ≡ true) × (value ≡ x)
  if_ok x e =
      let chose = chose_first test (λ q. let z : ◌≡◌ {A = ℕ} 0 1 = cc in omega arith) e in
      (chose.0, let same = chose.1 in cc)

  pub if_refused : (w : Refusal) → ok_if test value why ≡ Err w → test ≡ false
  if_refused w e = (chose_second test (λ q. let z : ◌≡◌ {A = ℕ} 0 1 = cc in omega arith) e).0

  pub if_why : (w : Refusal) → ok_if test value why ≡ Err w → why ≡ w
  if_why w e =
      let chose = chose_second test (λ q. let z : ◌≡◌ {A = ℕ} 0 1 = cc in omega arith) e in
      let same = chose.1 in
      cc
