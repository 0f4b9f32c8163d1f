-- What signed arithmetic of a width w results in, where the numbers are known and small enough: the value and how large it can be. Assumes
-- nothing.
use mathlib.Core.Path.{◌≡◌, sym, subst}
use Prim.Native.Nat.{ℕ, ◌+◌, ◌*◌, ◌^◌, ◌≤◌, ◌<◌}
use native.Mathlib.Numerals.{add-one}
use native.Mathlib.Omega.{arith}
use lib.IntN.{ℤ, nat_abs, ◌+ℤ◌, ◌-ℤ◌, ◌*ℤ◌}
use mir.Syntax.{Width}
use mir.Val.{hbits, to_z, of_z}
use Rattle.integers.proofs.Laws.Bounds.{+ℤ_bound, -ℤ-bound, *ℤ_bound, reads_back}
use Rattle.integers.specs.Sum.{sum}

-- the result r of the code is the value m, which is at most B
pub record IsWithin (r m : ℤ) (B : ℕ) : Type 0 where
  pub value : r ≡ m
  pub size : nat_abs r ≤ B

-- a result that reads back
read_back : (w : Width) {r m : ℤ} {B : ℕ} → r ≡ m → nat_abs m ≤ B → B < 2 ^ hbits w → IsWithin (to_z w (of_z w r)) m B
read_back w {r} {m} {B} e h room =
    let is : to_z w (of_z w r) ≡ m = reads_back w e (omega arith) in
    record { value = is; size = subst (λ z. nat_abs z ≤ B) (sym is) h }

module _ (w : Width) {r s m n : ℤ} {A B : ℕ} (e : IsWithin r m A) (d : IsWithin s n B) where
  m_small : nat_abs m ≤ A
  m_small = subst (λ z. nat_abs z ≤ A) e.value e.size

  n_small : nat_abs n ≤ B
  n_small = subst (λ z. nat_abs z ≤ B) d.value d.size

  pub difference_is : A + B < 2 ^ hbits w → IsWithin (to_z w (of_z w (to_z w (of_z w r) -ℤ to_z w (of_z w s)))) (m -ℤ n) (A + B)
  difference_is room =
      read_back w (λ i. reads_back w e.value (omega (arith, m_small)) i -ℤ reads_back w d.value (omega (arith, n_small)) i) (-ℤ-bound m n m_small n_small) room

  pub product_is : A < 2 ^ hbits w → B < 2 ^ hbits w → A * B < 2 ^ hbits w → IsWithin (to_z w (of_z w (to_z w (of_z w r) *ℤ to_z w (of_z w s)))) (m *ℤ n) (A * B)
  product_is a b room =
      read_back w (λ i. reads_back w e.value (omega (arith, m_small)) i *ℤ reads_back w d.value (omega (arith, n_small)) i) (*ℤ_bound m n m_small n_small) room

-- one step of a loop that adds up: s is the sum of the first n numbers, and v the next of them
pub sum_step : (w : Width) (f : ℕ → ℤ) (n : ℕ) {B : ℕ} {s v : ℤ} → IsWithin s (sum n f) (n * B) → IsWithin v (f n) B → (n + 1) * B < 2 ^ hbits w
    → IsWithin (to_z w (of_z w (s +ℤ to_z w (of_z w v)))) (sum (n + 1) f) ((n + 1) * B)
unfolding sum
sum_step w f n {B} {s} {v} e d room =
    let so_far : nat_abs (sum n f) ≤ n * B = subst (λ z. nat_abs z ≤ n * B) e.value e.size in
    let next : nat_abs (f n) ≤ B = subst (λ z. nat_abs z ≤ B) d.value d.size in
    let small : nat_abs (sum n f +ℤ f n) ≤ (n + 1) * B = omega (arith, +ℤ_bound (sum n f) (f n) {A = n * B} {B = B} so_far next) in
    let r = read_back w (λ i. e.value i +ℤ reads_back w d.value (omega (arith, next)) i) small room in
    record { value = rw add-one r.value; size = r.size }
