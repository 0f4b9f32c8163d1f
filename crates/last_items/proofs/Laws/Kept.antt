-- Laws of the code that finds the last of equal items: features compared as bytes, and by their hashes. Assumes nothing.
use mathlib.Core.Path.{◌≡◌, refl, sym, ◌∙◌, ap, subst}
use mathlib.Core.Bool.{Bool, true, false, ◌||◌, not, cond}
use mathlib.Core.List.{List, [], ◌∷◌, ◌++◌, map, append-nil}
use Prim.Native.Nat.{ℕ, suc, ◌+◌, ◌-◌, ◌≤◌, ◌<◌, suc-le-suc}
use native.Mathlib.Nat.{le_trans}
use native.Mathlib.Numerals.{add-one}
use native.Mathlib.Decide.{dec_lt}
use native.Mathlib.Omega.{arith}
use borrow.Author.Tests.{eqb-false}
use lib.Dec.{eqb}
use Rattle.std.proofs.Common.{nat_eq}
use Rattle.std.specs.Int.{w64, to_le_bytes}
use Rattle.std.specs.List.{list_any}
use Rattle.std.specs.Str.{bytes_eq}
use Rattle.std.proofs.lemmas.Bool.Decides.{Decides-eqb, Decides-like, same_from_decides}
use Rattle.std.proofs.lemmas.Grind.{get_or_default_zero}
use Rattle.std.proofs.lemmas.List.{take-append-drop}
use Rattle.std.proofs.lemmas.Nat.{le_bytes_8}
use Rattle.std.proofs.lemmas.Slice.Eq.{bytes_eq-Decides}
use lib.IntN.{pos}
use lib.ListN.{length, get_or, set, take, drop, length-take, length-drop, length-set, drop_of_length-le, get_or-eq_default, get_or-map}
use lib.Seq.{append_snoc, drop-cons, drop-drop, drop-set-lt, ext_get_or, get_or-drop, get_or-take, take_all, take-set-le, take-suc-set}
use Rattle.integers.specs.Equal.{equal}
use Rattle.integers.specs.Member.{member}
use Rattle.integers.proofs.Laws.Equal.{equal_is, equal_same}
use Rattle.integers.proofs.Laws.Places.{all_holds, all_true}
use Rattle.integers.proofs.Laws.Truth.{not_true_false, ||_neither}
use Rattle.training_file.specs.declared.item.Item.{Item}
use Rattle.training_file.specs.Layout.{byte_at, byte_of_signed, feature_bytes, feature_count, le8, signed_byte}
use Rattle.training_file.specs.Record.{Stored, features_at, item_at}
use Rattle.training_file.proofs.Laws.Layout.{signed_byte_back}
use Rattle.training_file.proofs.Laws.Record.{bytes_sixteen, feature_bytes_small}
use Rattle.last_items.specs.Last.{is_last, last_only, repeated, same_features, staying}
use Rattle.last_items.specs.Kept.{AllStored, FewStored, Kept, hash, hash_at, hashes_at, items_at, staying_at, stays_at}
use Rattle.last_items.proofs.Laws.Last.{repeated-append, staying_all, staying-length, staying_map, staying_parts}

-- ---- a search by a chain, and that of the definition

-- a number is among others just where one is equal to it
pub member_any : (r : ℕ) (rs : List ℕ) → list_any (λ x. nat_eq x r) rs ≡ member r rs
member_any r [] = refl
member_any r (x ∷ rs) = λ i. either_way i || member_any r rs i
  where
    either_way : nat_eq x r ≡ eqb r x
    either_way = let d = Decides-eqb r x in same_from_decides _ _ (Decides-eqb x r) ((λ e. sym (d.0 e)), (λ e. d.1 (sym e)))

-- ---- sixteen bytes by the two numbers that they make

module _ (bytes : List ℕ) (small : (i : ℕ) → byte_at bytes i < 256) where
  -- eight bytes from a place on are those of their number
  eight : (at : ℕ) → at + 8 ≤ length bytes → to_le_bytes w64 (le8 bytes at) ≡ take 8 (drop at bytes)
  eight at inside =
      le_bytes_8 part (le8 bytes at) (simp (length-take, length-drop) (omega arith)) (λ i. part_small i (dec_lt i 8))
      (omega (
        arith,
        place 0 at (omega arith),
        place 1 (at + 1) (omega arith),
        place 2 (at + 2) (omega arith),
        place 3 (at + 2 + 1) (omega arith),
        place 4 (at + 4) (omega arith),
        place 5 (at + 4 + 1) (omega arith),
        place 6 (at + 4 + 2) (omega arith),
        place 7 (at + 4 + 2 + 1) (omega arith),
      ))
    where
      part : List ℕ
      part = take 8 (drop at bytes)

      place : (i j : ℕ) → (i < 8) × (at + i ≡ j) → byte_at part i ≡ byte_at bytes j
      place i j h = get_or-take 8 (drop at bytes) i 0 h.0 ∙ get_or-drop at bytes i 0 ∙ ap (byte_at bytes) h.1

      part_small : (i : ℕ) → Dec (i < 8) → byte_at part i < 256
      part_small i (yes l) = let b = small (at + i) in omega (arith, place i (at + i) (l, refl))
      part_small i (no l) = omega (arith, get_or-eq_default part 0 {n = i} (omega (arith, length-take 8 (drop at bytes))))

  -- so sixteen are those of both
  parts : length bytes ≡ feature_count → bytes ≡ to_le_bytes w64 (le8 bytes 0) ++ to_le_bytes w64 (le8 bytes 8)
  parts sixteen =
      let rest : take 8 (drop 8 bytes) ≡ drop 8 bytes = take_all 8 (drop 8 bytes) (omega (arith, length-drop 8 bytes)) in
      sym (take-append-drop 8 bytes) ∙ (λ k. sym (eight 0 (omega arith)) k ++ (sym rest ∙ sym (eight 8 (omega arith))) k)

-- ---- two records with the same features have the same bytes there

module _ (left right : List ℕ) (small-left : (i : ℕ) → byte_at left i < 256) (small-right : (i : ℕ) → byte_at right i < 256)
    (a b : ℕ) (stored-a : Stored left a) (stored-b : Stored right b) where
  -- the same sixteen features are the same bytes
  pub same_bytes : same_features feature_count (item_at left a) (item_at right b) ≡ true → feature_bytes left a ≡ feature_bytes right b
  unfolding same_features
  same_bytes same =
      ext_get_or 0 (feature_bytes left a) (feature_bytes right b) (bytes_sixteen left a stored-a ∙ sym (bytes_sixteen right b stored-b))
      (λ i h.
      sym (signed_byte_back (byte_at (feature_bytes left a) i) (feature_bytes_small left small-left a i))
      ∙ ap byte_of_signed (feature i (omega (arith, bytes_sixteen left a stored-a)))
      ∙ signed_byte_back (byte_at (feature_bytes right b) i) (feature_bytes_small right small-right b i))
    where
      feature : (i : ℕ) → i < feature_count → signed_byte (byte_at (feature_bytes left a) i) ≡ signed_byte (byte_at (feature_bytes right b) i)
      feature i h =
          sym (get_or-map signed_byte (feature_bytes left a) i 0)
          ∙ equal_is _ _ (all_holds (λ k. equal (get_or (features_at left a) k (pos 0)) (get_or (features_at right b) k (pos 0))) feature_count same i h)
          ∙ get_or-map signed_byte (feature_bytes right b) i 0

  pub bytes_same : feature_bytes left a ≡ feature_bytes right b → same_features feature_count (item_at left a) (item_at right b) ≡ true
  unfolding same_features
  bytes_same e =
      all_true (λ k. equal (get_or (features_at left a) k (pos 0)) (get_or (features_at right b) k (pos 0))) feature_count
      (λ i h. equal_same _ _ (ap (λ (bytes : List ℕ). get_or (map signed_byte bytes) i (pos 0)) e))

  -- so `==` of the bytes decides
  pub bytes_decide : (r : Bool) → r ≡ bytes_eq (feature_bytes left a) (feature_bytes right b)
      → r ≡ same_features feature_count (item_at left a) (item_at right b)
  bytes_decide r e = e ∙ same_from_decides _ _ (bytes_eq-Decides _ _) (same_bytes, bytes_same)

  -- a first half that differs decides, and otherwise the second does
  abbrev half-left : ℕ → ℕ
  half-left at = le8 (feature_bytes left a) at

  abbrev half-right : ℕ → ℕ
  half-right at = le8 (feature_bytes right b) at

  half_decides : (at : ℕ) → (half-left at ≡ half-right at → feature_bytes left a ≡ feature_bytes right b)
      → eqb (half-left at) (half-right at) ≡ same_features feature_count (item_at left a) (item_at right b)
  half_decides at whole =
      bytes_decide _ (same_from_decides _ _ (Decides-like _ whole (ap (λ (bytes : List ℕ). le8 bytes at)) (Decides-eqb _ _)) (bytes_eq-Decides _ _))

  pub first_differs : (half-left 0 ≡ half-right 0 → ⊥) → eqb (half-left 0) (half-right 0) ≡ same_features feature_count (item_at left a) (item_at right b)
  first_differs other = half_decides 0 (λ e. absurd (other e))

  pub second_decides : half-left 0 ≡ half-right 0 → eqb (half-left 8) (half-right 8) ≡ same_features feature_count (item_at left a) (item_at right b)
  second_decides first =
      half_decides 8
      (λ second.
      parts (feature_bytes left a) (feature_bytes_small left small-left a) (bytes_sixteen left a stored-a)
      ∙ (λ k. to_le_bytes w64 (first k) ++ to_le_bytes w64 (second k))
      ∙ sym (parts (feature_bytes right b) (feature_bytes_small right small-right b) (bytes_sixteen right b stored-b)))

-- ---- a search of records

-- a part that goes to the end
pub part_from : (l : List ℕ) (k : ℕ) → take (length l - k) (drop k l) ≡ drop k l
part_from l k = take_all (length l - k) (drop k l) (omega (arith, length-drop k l))

-- one of the records stands in the file
pub stored_item : (file numbers : List ℕ) → AllStored file numbers → {r k : ℕ} → k < length numbers → r ≡ get_or numbers k r → Stored file r
stored_item file numbers stored {r} {k} h e = subst (Stored file) (sym (e ∙ get_or_default_zero numbers k r h)) (stored k h)

-- the rest of a list of records that all stand in the file
pub stored-drop : (file numbers : List ℕ) (k : ℕ) → AllStored file numbers → AllStored file (drop k numbers)
stored-drop file numbers k stored j h =
    subst (Stored file) (sym (get_or-drop k numbers j 0)) (stored (k + j) (omega (arith, length-drop k numbers)))

module _ (left : List ℕ) (small-left : (i : ℕ) → byte_at left i < 256) (a : ℕ) (stored-a : Stored left a)
    (file : List ℕ) (small : (i : ℕ) → byte_at file i < 256) where
  -- where none has the hash, none has the features
  pub unhashed : (numbers : List ℕ) → AllStored file numbers → member (hash_at left a) (hashes_at file numbers) ≡ false
      → repeated feature_count (item_at left a) (items_at file numbers) ≡ false
  unfolding repeated
  unhashed [] stored none = refl
  unhashed (r ∷ numbers) stored none =
      λ i. other i || unhashed numbers (λ k h. stored (suc k) (suc-le-suc h)) (||_neither (eqb (hash_at left a) (hash_at file r)) _ none).1 i
    where
      other : same_features feature_count (item_at left a) (item_at file r) ≡ false
      other =
          not_true_false _
          (λ h. eqb-false (hash_at left a) (hash_at file r) (||_neither (eqb (hash_at left a) (hash_at file r)) _ none).0
          (ap hash (same_bytes left file small-left small a r stored-a (stored 0 (omega arith)) h)))

-- the features are repeated just where one of the records has them
pub repeated_any : (d : ℕ) (item : Item) (file numbers : List ℕ)
    → list_any (λ (r : ℕ). same_features d item (item_at file r)) numbers ≡ repeated d item (items_at file numbers)
unfolding repeated
repeated_any d item file [] = refl
repeated_any d item file (r ∷ numbers) = ap (λ t. same_features d item (item_at file r) || t) (repeated_any d item file numbers)

-- ---- the numbers of those that stay, moved to the first places

module _ (file : List ℕ) (later : List Item) where
  -- the first k of the numbers have been judged, and so many of them stay
  pub record Keeping (before numbers : List ℕ) (kept k : ℕ) : Type 0 where
    pub below : kept ≤ k
    pub within : k ≤ length before
    pub places : length numbers ≡ length before
    pub rest : drop k numbers ≡ drop k before
    pub so_far : take kept numbers ++ staying_at file later (drop k before) ≡ staying_at file later before

  pub keeping_none : (numbers : List ℕ) → Keeping numbers numbers 0 0
  keeping_none numbers = record { below = omega arith; within = omega arith; places = refl; rest = refl; so_far = refl }

  module _ (before numbers : List ℕ) (kept k : ℕ) (so : Keeping before numbers kept k) where
    -- the number at place k has not been moved, nor has any after it
    pub keeping_number : get_or numbers k 0 ≡ get_or before k 0
    keeping_number =
        let e : k ≡ k + 0 = omega arith in
        ap (λ (j : ℕ). get_or numbers j 0) e ∙ sym (get_or-drop k numbers 0 0) ∙ ap (λ (l : List ℕ). get_or l 0 0) so.rest ∙ get_or-drop k before 0 0 ∙ ap (λ (j : ℕ). get_or before j 0) (sym e)

    pub keeping_rest : drop (k + 1) numbers ≡ drop (k + 1) before
    keeping_rest = sym (drop-drop 1 k numbers) ∙ ap (drop 1) so.rest ∙ drop-drop 1 k before

    pub keeping_all : length before ≤ k → Kept file later before numbers kept
    unfolding staying
    keeping_all end =
        record {
          places = so.places;
          most = omega (arith, so.below, so.within);
          first =
              sym (append-nil (take kept numbers))
              ∙ ap (λ (l : List ℕ). take kept numbers ++ staying_at file later l) (sym (drop_of_length-le before {i = k} end))
              ∙ so.so_far;
        }

    module _ (inside : k < length before) where
      abbrev number : ℕ
      number = get_or before k 0

      abbrev after : List ℕ
      after = set numbers kept (get_or numbers k 0)

      -- what is left to be judged, by the number at place k
      split : {stays : Bool} → stays_at file later number (drop (k + 1) before) ≡ stays
          → staying_at file later (drop k before) ≡ cond stays (number ∷ staying_at file later (drop (k + 1) before)) (staying_at file later (drop (k + 1) before))
      unfolding staying
      split {stays = stays} e =
          ap (staying_at file later) (drop-cons before k 0 inside ∙ ap (λ (j : ℕ). number ∷ drop j before) (sym (add-one k)))
          ∙ ap (λ t. cond t (number ∷ staying_at file later (drop (k + 1) before)) (staying_at file later (drop (k + 1) before))) e

      rest_after : drop (k + 1) after ≡ drop (k + 1) before
      rest_after = drop-set-lt (k + 1) numbers kept (get_or numbers k 0) (omega (arith, so.below)) ∙ keeping_rest

      pub keeping_more : stays_at file later number (drop (k + 1) before) ≡ true → Keeping before after (kept + 1) (k + 1)
      keeping_more e =
          record {
            below = omega (arith, so.below);
            within = omega arith;
            places = length-set numbers kept _ ∙ so.places;
            rest = rest_after;
            so_far =
                ap (λ (j : ℕ). take j after ++ staying_at file later (drop (k + 1) before)) (add-one kept)
                ∙ ap (λ (l : List ℕ). l ++ staying_at file later (drop (k + 1) before))
                (take-suc-set numbers kept (get_or numbers k 0) (omega (arith, so.below, so.places)) ∙ ap (λ (r : ℕ). take kept numbers ++ (r ∷ [])) keeping_number)
                ∙ append_snoc (take kept numbers) number (staying_at file later (drop (k + 1) before))
                ∙ ap (λ (l : List ℕ). take kept numbers ++ l) (sym (split e))
                ∙ so.so_far;
          }

      pub keeping_less : stays_at file later number (drop (k + 1) before) ≡ false → Keeping before after kept (k + 1)
      keeping_less e =
          record {
            below = omega (arith, so.below);
            within = omega arith;
            places = length-set numbers kept _ ∙ so.places;
            rest = rest_after;
            so_far =
                (λ i. take-set-le kept numbers kept (get_or numbers k 0) (omega arith) i ++ sym (split e) i) ∙ so.so_far;
          }

-- a record stays where it is repeated neither among the rest nor later
pub stays_is : (file later-file later : List ℕ) (r : ℕ) (rest : List ℕ) {own other : Bool}
    → own ≡ repeated feature_count (item_at file r) (items_at file rest) → other ≡ repeated feature_count (item_at file r) (items_at later-file later)
    → not (own || other) ≡ stays_at file (items_at later-file later) r rest
stays_is file later-file later r rest own other =
    (λ i. not (own i || other i)) ∙ ap not (sym (repeated-append feature_count (item_at file r) (items_at file rest) (items_at later-file later)))

-- ---- those that stay, at the first places

module _ (file : List ℕ) (later : List Item) (before after : List ℕ) (count : ℕ) (kept : Kept file later before after count) where
  -- they stand in the file, and are not more than before
  pub kept_stored : FewStored file before → FewStored file (take (count) after)
  kept_stored few =
      subst (FewStored file) (sym kept.first)
      (record {
        few = le_trans (staying-length (stays_at file later) before) few.few;
        stored = staying_all (Stored file) 0 (stays_at file later) before few.stored;
      })

  -- their items are those that stay
  pub kept_items : items_at file (take (count) after) ≡ staying (λ item more. is_last feature_count item (more ++ later)) (items_at file before)
  kept_items = ap (items_at file) kept.first ∙ staying_map (item_at file) (λ item more. is_last feature_count item (more ++ later)) before

-- those of both files are the last of all
module _ (older numbers kept-older : List ℕ) (older_count : ℕ) (newer numbers' kept-newer : List ℕ) (newer_count : ℕ)
    (k : Kept older (items_at newer numbers') numbers kept-older older_count) (k' : Kept newer [] numbers' kept-newer newer_count) where
  newer_items : items_at newer (take (newer_count) kept-newer) ≡ last_only feature_count (items_at newer numbers')
  unfolding staying
  newer_items =
      kept_items newer [] numbers' kept-newer newer_count k'
      ∙ sym (append-nil _)
      ∙ sym (staying_parts feature_count (items_at newer numbers') [])
      ∙ ap (last_only feature_count) (append-nil (items_at newer numbers'))

  pub kept_both : items_at older (take (older_count) kept-older) ++ items_at newer (take (newer_count) kept-newer)
      ≡ last_only feature_count (items_at older numbers ++ items_at newer numbers')
  kept_both =
      (λ i. kept_items older (items_at newer numbers') numbers kept-older older_count k i ++ newer_items i)
      ∙ sym (staying_parts feature_count (items_at older numbers) (items_at newer numbers'))
