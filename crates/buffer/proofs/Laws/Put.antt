-- Laws of `Put`: bytes put after bytes. Assumes nothing.
use Rattle.std.proofs.Common.{◌≡◌, refl, sym, ◌∙◌, ap, subst, List, [], ◌∷◌, ◌++◌, append_assoc, ℕ, suc, ◌+◌, ◌≤◌, ◌<◌, arith, length, get_or, set, take, drop, length-append}
use Rattle.std.proofs.lemmas.List.{drop-drop}
use Rattle.std.proofs.lemmas.List.Edits.{sets, sets-eq}
use Rattle.std.proofs.Math.Seq.{length-sets, length-take-le, take-suc}
use borrow.Rule.Slice.PartMut.{put_mid}
use Rattle.buffer.specs.declared.put.Cursor.{Cursor}
use Rattle.buffer.specs.Put.{Put, Room}

-- a part of a buffer written over by as many bytes
pub copied : (i k : ℕ) (l part bytes : List ℕ) → i + length bytes ≤ length l → k ≡ length bytes → part ≡ bytes → put_mid i k l part ≡ sets l i bytes
copied i k l part bytes fits whole same = rw (sets-eq bytes l i fits, same, whole) (rw append_assoc (simp drop-drop))

sets-append : (xs ys l : List ℕ) (i : ℕ) → sets l i (xs ++ ys) ≡ sets (sets l i xs) (i + length xs) ys
sets-append [] ys l i = let e : i ≡ i + 0 = omega arith in ap (λ j. sets l j ys) e
sets-append (x ∷ xs) ys l i = let e : suc i + length xs ≡ i + suc (length xs) = omega arith in sets-append xs ys _ (suc i) ∙ ap (λ j. sets (sets l i (x ∷ xs)) j ys) e

-- one more of the bytes
pub sets-take : (bytes l : List ℕ) (i k : ℕ) → k < length bytes → set (sets l i (take k bytes)) (i + k) (get_or bytes k 0) ≡ sets l i (take (suc k) bytes)
sets-take bytes l i k h =
    ap (λ n. set (sets l i (take k bytes)) (i + n) (get_or bytes k 0)) (sym (length-take-le k bytes (omega arith)))
    ∙ sym (sets-append (take k bytes) (get_or bytes k 0 ∷ []) l i)
    ∙ ap (sets l i) (sym (take-suc bytes k 0 h))

module _ {xs : List ℕ} {before after : Cursor} (p : Put xs before after) where
  pub put-length : length after.bytes.now ≡ length before.bytes.now
  put-length = ap length p.left ∙ length-sets before.bytes.now before.at xs

  -- bytes put after them: both together are put, and they have room where both have
  pub put_then : {ys : List ℕ} {last : Cursor} → Put ys after last → Put (xs ++ ys) before last
  put_then {ys} q =
      record {
        same_buffer = q.same_buffer ∙ p.same_buffer;
        ends = omega (arith, q.ends, p.ends, length-append xs ys);
        left = q.left ∙ (λ t. sets (p.left t) (p.ends t) ys) ∙ sym (sets-append xs ys before.bytes.now before.at);
      }

  pub room_then : {ys : List ℕ} → Room (xs ++ ys) before → Room ys after
  room_then {ys} h = record { fits = omega (arith, p.ends, h.fits, put-length, length-append xs ys) }

pub room_first : (xs ys : List ℕ) {cursor : Cursor} → Room (xs ++ ys) cursor → Room xs cursor
room_first xs ys h = record { fits = omega (arith, length-append xs ys) }

pub put_none : (cursor : Cursor) → Put [] cursor cursor
put_none cursor = record { same_buffer = refl; ends = omega arith; left = refl }

-- the same bytes, said in another way
pub put_as : {xs ys : List ℕ} {before after : Cursor} → xs ≡ ys → Put xs before after → Put ys before after
put_as {before = before} {after} e p = subst (λ t. Put t before after) e p

pub room_as : {xs ys : List ℕ} {cursor : Cursor} → xs ≡ ys → Room xs cursor → Room ys cursor
room_as {cursor = cursor} e h = subst (λ t. Room t cursor) e h

-- bytes that start the buffer
pub put_all : {xs : List ℕ} {before after : Cursor} → before.at ≡ 0 → length xs ≤ length before.bytes.now → Put xs before after
    → (after.at ≡ length xs) × (after.bytes.now ≡ xs ++ drop after.at before.bytes.now)
put_all {xs} {before} {after} start fits p =
    let whole : 0 + length xs ≡ after.at = omega (arith, p.ends, start) in (
      omega arith,
      p.left ∙ ap (λ i. sets before.bytes.now i xs) start ∙ sets-eq xs before.bytes.now 0 (omega arith) ∙ ap (λ n. xs ++ drop n before.bytes.now) whole,
    )
