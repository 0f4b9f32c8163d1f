-- Laws of records. Assumes nothing.
use mathlib.Core.Path.{◌≡◌, refl, sym, ◌∙◌, subst}
use mathlib.Core.Bool.{Bool, true, ◌&&◌}
use mathlib.Core.List.{List, [], ◌∷◌}
use Prim.Native.Nat.{ℕ, zero, suc, ◌+◌, ◌<◌}
use native.Mathlib.Nat.{le_of_suc-le-suc}
use native.Mathlib.Decide.{dec_lt}
use native.Mathlib.Omega.{arith}
use lib.Dec.{eqb}
use lib.ListN.{length, get_or, drop, length-map, length-take, length-drop, get_or-eq_default}
use lib.Seq.{get_or-drop, get_or-take}
use borrow.Author.Tests.{eqb-true}
use Rattle.integers.proofs.Laws.Truth.{&&_left, &&_right, &&_true}
use Rattle.training_file.specs.Layout.{byte_at, feature_bytes, feature_count, label_byte, record_start, signed_byte, zero_byte}
use Rattle.training_file.specs.Item.{features_allowed, item_allowed, label_allowed}
use Rattle.training_file.specs.Record.{Stored, every, features_at, record_allowed}

-- a record that stands whole in the file has its sixteen features
pub bytes_sixteen : (file : List ℕ) (r : ℕ) → Stored file r → length (feature_bytes file r) ≡ feature_count
bytes_sixteen file r stored = simp (length-take, length-drop) (omega arith)

pub features_sixteen : (file : List ℕ) (r : ℕ) → Stored file r → length (features_at file r) ≡ feature_count
features_sixteen file r stored = length-map (feature_bytes file r) signed_byte ∙ bytes_sixteen file r stored

-- its feature bytes are bytes, where the file's are
pub feature_bytes_small : (file : List ℕ) → ((i : ℕ) → byte_at file i < 256) → (r i : ℕ) → byte_at (feature_bytes file r) i < 256
feature_bytes_small file bytes r i = by (dec_lt i feature_count)
  where
    by : Dec (i < feature_count) → byte_at (feature_bytes file r) i < 256
    by (yes l) =
        subst (λ (n : ℕ). n < 256) (sym (get_or-take feature_count (drop (record_start r + 4) file) i 0 l ∙ get_or-drop (record_start r + 4) file i 0))
        (bytes (record_start r + 4 + i))
    by (no l) =
        subst (λ (n : ℕ). n < 256)
        (sym (get_or-eq_default (feature_bytes file r) 0 {n = i} (omega (arith, length-take feature_count (drop (record_start r + 4) file)))))
        (omega arith)

-- ---- refusal 4 by its parts

module _ (d : ℕ) (file : List ℕ) (r : ℕ) where
  pub item_decides : eqb (zero_byte file r) 0 ≡ true → record_allowed d file r ≡ item_allowed d (label_byte file r) (features_at file r)
  unfolding record_allowed
  item_decides h = rw h

  pub record_zero : record_allowed d file r ≡ true → zero_byte file r ≡ 0
  unfolding record_allowed
  record_zero h = eqb-true (zero_byte file r) 0 (&&_left (eqb (zero_byte file r) 0) (item_allowed d (label_byte file r) (features_at file r)) h)

  pub record_label : record_allowed d file r ≡ true → label_allowed (label_byte file r) ≡ true
  unfolding record_allowed
  record_label h = &&_left (label_allowed (label_byte file r)) (features_allowed d (features_at file r)) (&&_right (eqb (zero_byte file r) 0) _ h)

  pub record_features : record_allowed d file r ≡ true → features_allowed d (features_at file r) ≡ true
  unfolding record_allowed
  record_features h = &&_right (label_allowed (label_byte file r)) _ (&&_right (eqb (zero_byte file r) 0) _ h)

-- ---- a test that holds of each of a list

pub every_at : {A : Type 0} (test : A → Bool) (none : A) (list : List A) → every test list ≡ true → (k : ℕ) → k < length list → test (get_or list k none) ≡ true
unfolding every
every_at test none [] h k l = absurd (omega arith)
every_at test none (first ∷ rest) h zero l = &&_left (test first) (every test rest) h
every_at test none (first ∷ rest) h (suc k) l = every_at test none rest (&&_right (test first) (every test rest) h) k (le_of_suc-le-suc l)

pub every_true : {A : Type 0} (test : A → Bool) (none : A) (list : List A) → ((k : ℕ) → k < length list → test (get_or list k none) ≡ true) → every test list ≡ true
unfolding every
every_true test none [] h = refl
every_true test none (first ∷ rest) h = &&_true (h 0 (omega arith)) (every_true test none rest (λ k l. h (suc k) (omega arith)))

-- two tests that say the same at each place of two lists
pub every_as : {A B : Type 0} (test : A → Bool) (other : B → Bool) (a : A) (b : B) (list : List A) (others : List B)
    → length list ≡ length others → ((k : ℕ) → k < length list → test (get_or list k a) ≡ other (get_or others k b)) → every test list ≡ every other others
unfolding every
every_as test other a b [] [] e h = refl
every_as test other a b [] (first ∷ rest) e h = absurd (omega (arith, e))
every_as test other a b (first ∷ rest) [] e h = absurd (omega (arith, e))
every_as test other a b (x ∷ xs) (y ∷ ys) e h =
    λ j. h 0 (omega arith) j && every_as test other a b xs ys (omega (arith, e)) (λ k l. h (suc k) (omega arith)) j
