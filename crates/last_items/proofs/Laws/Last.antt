-- Laws of the items that stay: which they are, what holds of them, and what is left of a pool of pools. Assumes nothing.
use mathlib.Core.Path.{◌≡◌, refl, sym, ◌∙◌, ap}
use mathlib.Core.Logic.{⊎_elim}
use mathlib.Core.Bool.{Bool, true, false, ◌||◌, not, cond, or_assoc, or-true}
use mathlib.Core.List.{List, [], ◌∷◌, ◌++◌, append_assoc, append-nil, map}
use Prim.Native.Nat.{ℕ, zero, suc, ◌+◌, ◌-◌, ◌≤◌, ◌<◌, suc-le-suc}
use native.Mathlib.Nat.{le_of_suc-le-suc}
use native.Mathlib.Omega.{arith}
use lib.IntN.{ℤ, pos}
use lib.ListN.{length, get_or, take, drop, length-drop, take-append-drop}
use lib.Seq.{get_or-drop}
use Rattle.std.specs.Cmp.{both_ways}
use Rattle.integers.specs.Equal.{equal}
use Rattle.integers.specs.Places.{all}
use Rattle.integers.proofs.Laws.Equal.{equal_is, equal_same}
use Rattle.integers.proofs.Laws.Places.{all_first, all_holds, all_true}
use Rattle.integers.proofs.Laws.Truth.{||_either, ||_neither, chose_either, clash, not_false_true, not_true_false}
use Rattle.training_file.specs.declared.item.Label.TheVariants.{PassedOver}
use Rattle.training_file.specs.declared.item.Item.{Item}
use Rattle.training_file.specs.Layout.{feature_count}
use Rattle.training_file.specs.Item.{item_in}
use Rattle.last_items.specs.Last.{is_last, last_only, repeated, same_features, staying}

-- ---- each of a list

module _ {A : Type 0} (P : A → Type 0) (none : A) where
  abbrev Each : List A → Type 0
  Each list = (k : ℕ) → k < length list → P (get_or list k none)

  -- of one more in front
  each_cons : (first : A) (rest : List A) → P first → Each rest → Each (first ∷ rest)
  each_cons first rest here there zero h = here
  each_cons first rest here there (suc k) h = there k (le_of_suc-le-suc h)

  -- of two lists, one after the other
  pub each_append : (xs ys : List A) → ((k : ℕ) → k < length xs → P (get_or xs k none)) → ((k : ℕ) → k < length ys → P (get_or ys k none))
      → (k : ℕ) → k < length (xs ++ ys) → P (get_or (xs ++ ys) k none)
  each_append [] ys here there = there
  each_append (x ∷ xs) ys here there = each_cons x (xs ++ ys) (here 0 (omega arith)) (each_append xs ys (λ k h. here (suc k) (omega arith)) there)

-- ---- those of any list that stay, by any test

-- a function of a choice, as a choice of what it gives
chose_under : {A B : Type 0} (f : A → B) (b : Bool) (x y : A) → f (cond b x y) ≡ cond b (f x) (f y)
chose_under f true x y = refl
chose_under f false x y = refl

module _ {A : Type 0} where
  module _ (stays : A → List A → Bool) where
    -- they are as many at most
    pub staying-length : (xs : List A) → length (staying stays xs) ≤ length xs
    unfolding staying
    staying-length [] = omega arith
    staying-length (x ∷ xs) =
        let rest = staying-length xs in chose_either (λ (ys : List A). length ys ≤ suc (length xs)) (stays x xs) (omega arith) (omega arith)

    -- of two lists, one after the other: those of the first in front of the second, and then those of the second, as if it stood alone
    pub staying-append : (xs ys : List A) → staying stays (xs ++ ys) ≡ staying (λ x later. stays x (later ++ ys)) xs ++ staying stays ys
    unfolding staying
    staying-append [] ys = refl
    staying-append (x ∷ xs) ys =
        (λ j. cond (stays x (xs ++ ys)) (x ∷ staying-append xs ys j) (staying-append xs ys j))
        ∙ sym (chose_under (λ (kept : List A). kept ++ staying stays ys) (stays x (xs ++ ys)) _ _)

  -- what holds of each holds of each that stays
  pub staying_all : (P : A → Type 0) (none : A) (stays : A → List A → Bool) (xs : List A) → ((k : ℕ) → k < length xs → P (get_or xs k none))
      → (k : ℕ) → k < length (staying stays xs) → P (get_or (staying stays xs) k none)
  unfolding staying
  staying_all P none stays [] each = each
  staying_all P none stays (x ∷ xs) each =
      let rest = staying_all P none stays xs (λ k h. each (suc k) (omega arith)) in
      chose_either (Each P none) (stays x xs) (each_cons P none x (staying stays xs) (each 0 (omega arith)) rest) rest

-- a test of what f gives is made before or after f
pub staying_map : {A B : Type 0} (f : A → B) (stays : B → List B → Bool) (xs : List A)
    → map f (staying (λ x later. stays (f x) (map f later)) xs) ≡ staying stays (map f xs)
unfolding staying
staying_map f stays [] = refl
staying_map f stays (x ∷ xs) =
    chose_under (map f) (stays (f x) (map f xs)) _ _
    ∙ (λ j. cond (stays (f x) (map f xs)) (f x ∷ staying_map f stays xs j) (staying_map f stays xs j))

-- ---- "the same d features"

-- a test that passes with another one
absorbed : (s t : Bool) → (s ≡ true → t ≡ true) → t ≡ (s || t)
absorbed true t f = f refl
absorbed false t f = refl

module _ (d : ℕ) where
  -- they are the same at each of the d places
  pub same_at : (a b : Item) → same_features d a b ≡ true → (i : ℕ) → i < d → get_or a.features i (pos 0) ≡ get_or b.features i (pos 0)
  unfolding same_features
  same_at a b e i h = equal_is (get_or a.features i (pos 0)) (get_or b.features i (pos 0)) (all_holds _ d e i h)

  -- which is all that is asked
  pub same_true : (a b : Item) → ((i : ℕ) → i < d → get_or a.features i (pos 0) ≡ get_or b.features i (pos 0)) → same_features d a b ≡ true
  unfolding same_features
  same_true a b each = all_true _ d (λ i h. equal_same (get_or a.features i (pos 0)) (get_or b.features i (pos 0)) (each i h))

  -- an item has its own features
  pub same_self : (a : Item) → same_features d a a ≡ true
  same_self a = same_true a a (λ i h. refl)

  -- either of two may be the first
  pub same_symmetric : (a b : Item) → same_features d a b ≡ true → same_features d b a ≡ true
  same_symmetric a b e = same_true b a (λ i h. sym (same_at a b e i h))

  -- what is the same as a third is the same
  pub same_transitive : (a b c : Item) → same_features d a b ≡ true → same_features d b c ≡ true → same_features d a c ≡ true
  same_transitive a b c e f = same_true a c (λ i h. same_at a b e i h ∙ same_at b c f i h)

  -- of two with the same features, each is compared alike with any other
  same_as : (a b c : Item) → same_features d a b ≡ true → same_features d a c ≡ same_features d b c
  same_as a b c e = both_ways _ _ (same_transitive b a c (same_symmetric a b e)) (same_transitive a b c e)

  -- ---- one of a list has the same features

  -- of two with the same features, each has them in the same lists
  repeated_as : (a b : Item) (items : List Item) → same_features d a b ≡ true → repeated d a items ≡ repeated d b items
  unfolding repeated
  repeated_as a b [] e = refl
  repeated_as a b (other ∷ others) e = λ j. same_as a b other e j || repeated_as a b others e j

  -- of two lists, the one or the other has such an item
  pub repeated-append : (item : Item) (xs ys : List Item) → repeated d item (xs ++ ys) ≡ (repeated d item xs || repeated d item ys)
  unfolding repeated
  repeated-append item [] ys = refl
  repeated-append item (x ∷ xs) ys = ap (λ t. same_features d item x || t) (repeated-append item xs ys) ∙ sym (or_assoc (same_features d item x) _ _)

  -- such an item stands at a place
  pub repeated_at : (item : Item) (items : List Item) → repeated d item items ≡ true
      → (k : ℕ) × (k < length items) × (same_features d item (item_in items k) ≡ true)
  unfolding repeated
  repeated_at item [] e = clash e refl
  repeated_at item (other ∷ others) e =
      ⊎_elim (λ same. (0, omega arith, same)) (λ more. let at = repeated_at item others more in (suc at.0, suc-le-suc at.1, at.2))
      (||_either (same_features d item other) (repeated d item others) e)

  -- or at none
  pub repeated_none : (item : Item) (items : List Item) → repeated d item items ≡ false
      → (k : ℕ) → k < length items → same_features d item (item_in items k) ≡ false
  unfolding repeated
  repeated_none item [] e k h = absurd (omega arith)
  repeated_none item (other ∷ others) e zero h = (||_neither (same_features d item other) (repeated d item others) e).0
  repeated_none item (other ∷ others) e (suc k) h =
      repeated_none item others (||_neither (same_features d item other) (repeated d item others) e).1 k (le_of_suc-le-suc h)

  -- so one at a place is enough
  pub is_repeated : (item : Item) (items : List Item) (k : ℕ) → k < length items → same_features d item (item_in items k) ≡ true → repeated d item items ≡ true
  is_repeated item items k h same = not_false_true (repeated d item items) (λ e. clash same (repeated_none item items e k h))

  -- and one past place j, for the items after that
  repeated_past : (item : Item) (items : List Item) (j k : ℕ) → j < k → k < length items → same_features d item (item_in items k) ≡ true
      → repeated d item (drop (suc j) items) ≡ true
  repeated_past item items j k l h same =
      let e : suc j + (k - suc j) ≡ k = omega arith in
      is_repeated item (drop (suc j) items) (k - suc j) (omega (arith, length-drop (suc j) items))
      (ap (same_features d item) (get_or-drop (suc j) items (k - suc j) _ ∙ ap (item_in items) e) ∙ same)

  -- ---- "only the last stays"

  -- of two lists, the second's items that are the last of theirs in it all stay, after those of the first that stay
  pub staying_parts : (xs ys : List Item) → last_only d (xs ++ ys) ≡ staying (λ item later. is_last d item (later ++ ys)) xs ++ last_only d ys
  staying_parts = staying-append (is_last d)

  -- the first of a list stays or goes
  last_either : (Q : List Item → Type 0) (item : Item) (items : List Item) → (repeated d item items ≡ false → Q (item ∷ last_only d items))
      → (repeated d item items ≡ true → Q (last_only d items)) → Q (last_only d (item ∷ items))
  unfolding staying
  last_either Q item items stays goes = by (repeated d item items) refl
    where
      by : (t : Bool) → repeated d item items ≡ t → Q (cond (not t) (item ∷ last_only d items) (last_only d items))
      by true e = goes e
      by false e = stays e

  -- every item that goes has a later one with the same features that stays
  pub repeated_left : (item : Item) (items : List Item) → repeated d item (last_only d items) ≡ repeated d item items
  unfolding repeated staying
  repeated_left item [] = refl
  repeated_left item (x ∷ xs) =
      let rest = repeated_left item xs in
      last_either (λ left. repeated d item left ≡ repeated d item (x ∷ xs)) x xs
      (λ e. ap (λ t. same_features d item x || t) rest)
      (λ e. rest ∙ absorbed (same_features d item x) (repeated d item xs) (λ same. repeated_as item x xs same ∙ e))

  -- where a later item has the same features, so has one of those that stay of the items after this one
  pub dropped_later : (items : List Item) (j k : ℕ) → j < k → k < length items → same_features d (item_in items j) (item_in items k) ≡ true
      → (i : ℕ) × (i < length (last_only d (drop (suc j) items)))
      × (same_features d (item_in items j) (item_in (last_only d (drop (suc j) items)) i) ≡ true)
  dropped_later items j k l h same =
      repeated_at (item_in items j) (last_only d (drop (suc j) items))
      (repeated_left (item_in items j) (drop (suc j) items) ∙ repeated_past (item_in items j) items j k l h same)

  -- those that stay of the items from a place on stand at the end of all that stay
  pub left_end : (items : List Item) (j : ℕ)
      → last_only d items ≡ staying (λ item later. is_last d item (later ++ drop j items)) (take j items) ++ last_only d (drop j items)
  left_end items j = ap (last_only d) (sym (take-append-drop j items)) ∙ staying_parts (take j items) (drop j items)

  -- an item stands at a place of the list, and no later one has its features
  pub record Last (items : List Item) (item : Item) : Type 0 where
    pub place : ℕ
    pub held : place < length items
    pub is : item_in items place ≡ item
    pub none_later : repeated d item (drop (suc place) items) ≡ false

  -- none at any later place
  pub last_apart : (items : List Item) (item : Item) (l : Last items item) (k : ℕ) → l.place < k → k < length items
      → same_features d item (item_in items k) ≡ false
  last_apart items item l k m h = not_true_false _ (λ same. clash (repeated_past item items l.place k m h same) l.none_later)

  -- an item in front changes nothing
  one_more : (first : Item) (rest : List Item) (item : Item) → Last rest item → Last (first ∷ rest) item
  one_more first rest item l = record { place = suc l.place; held = suc-le-suc l.held; is = l.is; none_later = l.none_later }

  -- every item that stays is the last of its features
  pub stays_last : (items : List Item) (k : ℕ) → k < length (last_only d items) → Last items (item_in (last_only d items) k)
  unfolding staying
  stays_last [] k h = absurd (omega arith)
  stays_last (x ∷ xs) k h =
      let rest : Each (Last (x ∷ xs)) past (last_only d xs) = λ i l. one_more x xs _ (stays_last xs i l) in
      last_either (Each (Last (x ∷ xs)) past) x xs
      (λ e. each_cons (Last (x ∷ xs)) past x (last_only d xs) (record { place = 0; held = omega arith; is = refl; none_later = e }) rest) (λ e. rest) k h
    where
      past : Item
      past = record { label = PassedOver; features = [] }

  -- no two of a list have the same features
  abbrev Apart : List Item → Type 0
  Apart items = (j k : ℕ) → j < k → k < length items → same_features d (item_in items j) (item_in items k) ≡ false

  -- of one more in front
  more_apart : (first : Item) (rest : List Item) → repeated d first rest ≡ false → Apart rest → Apart (first ∷ rest)
  more_apart first rest e apart j zero l h = absurd (omega arith)
  more_apart first rest e apart zero (suc k) l h = repeated_none first rest e k (le_of_suc-le-suc h)
  more_apart first rest e apart (suc j) (suc k) l h = apart j k (le_of_suc-le-suc l) (le_of_suc-le-suc h)

  -- no two that stay have the same features
  pub no_two : (items : List Item) (j k : ℕ) → j < k → k < length (last_only d items)
      → same_features d (item_in (last_only d items) j) (item_in (last_only d items) k) ≡ false
  unfolding staying
  no_two [] j k l h = absurd (omega arith)
  no_two (x ∷ xs) j k l h =
      last_either Apart x xs (λ e. more_apart x (last_only d xs) (repeated_left x xs ∙ e) (no_two xs)) (λ e. no_two xs) j k l h

  -- ---- what is left of two lists, by what is left of each

  -- one more in front of lists of which the same is left
  left-cons : (item : Item) (xs ys : List Item) → last_only d xs ≡ last_only d ys → last_only d (item ∷ xs) ≡ last_only d (item ∷ ys)
  unfolding staying
  left-cons item xs ys e =
      let same : repeated d item xs ≡ repeated d item ys = sym (repeated_left item xs) ∙ ap (repeated d item) e ∙ repeated_left item ys in
      λ j. cond (not (same j)) (item ∷ e j) (e j)

  -- one that goes
  left_dropped : (item : Item) (items : List Item) → repeated d item items ≡ true → last_only d (item ∷ items) ≡ last_only d items
  unfolding staying
  left_dropped item items e = ap (λ t. cond (not t) (item ∷ last_only d items) (last_only d items)) e

  -- of the second list only those that stay in it matter
  left_after : (xs ys zs : List Item) → last_only d ys ≡ last_only d zs → last_only d (xs ++ ys) ≡ last_only d (xs ++ zs)
  left_after [] ys zs e = e
  left_after (x ∷ xs) ys zs e = left-cons x (xs ++ ys) (xs ++ zs) (left_after xs ys zs e)

  -- of the first list only those that stay in it matter
  left_first : (xs ys : List Item) → last_only d (last_only d xs ++ ys) ≡ last_only d (xs ++ ys)
  unfolding staying
  left_first [] ys = refl
  left_first (x ∷ xs) ys =
      let rest = left_first xs ys in
      last_either (λ left. last_only d (left ++ ys) ≡ last_only d (x ∷ (xs ++ ys))) x xs
      (λ e. left-cons x (last_only d xs ++ ys) (xs ++ ys) rest)
      (λ e. rest ∙ sym (left_dropped x (xs ++ ys) (repeated-append x xs ys ∙ ap (λ t. t || repeated d x ys) e)))

  -- and of what is left everything stays
  left_again : (items : List Item) → last_only d (last_only d items) ≡ last_only d items
  left_again items =
      ap (last_only d) (sym (append-nil (last_only d items))) ∙ left_first items [] ∙ ap (last_only d) (append-nil items)

  -- items whose features all come again later go
  superseded : (xs ys : List Item) → ((k : ℕ) → k < length xs → repeated d (item_in xs k) ys ≡ true) → last_only d (xs ++ ys) ≡ last_only d ys
  superseded [] ys each = refl
  superseded (x ∷ xs) ys each =
      left_dropped x (xs ++ ys) (repeated-append x xs ys ∙ ap (λ t. repeated d x xs || t) (each 0 (omega arith)) ∙ or-true (repeated d x xs))
      ∙ superseded xs ys (λ k h. each (suc k) (omega arith))

  -- each of a list is one of that list
  in_itself : (items : List Item) (k : ℕ) → k < length items → repeated d (item_in items k) items ≡ true
  in_itself items k h = is_repeated (item_in items k) items k h (same_self (item_in items k))

  -- what is left, pooled with itself, is what is left
  pub pool_twice : (items : List Item) → last_only d (last_only d items ++ last_only d items) ≡ last_only d items
  pool_twice items = superseded (last_only d items) (last_only d items) (in_itself (last_only d items)) ∙ left_again items

  -- so it is after the older items
  pub pool_older : (xs ys : List Item) → last_only d (xs ++ last_only d (xs ++ ys)) ≡ last_only d (xs ++ ys)
  pool_older xs ys =
      superseded xs (last_only d (xs ++ ys))
      (λ k h. repeated_left (item_in xs k) (xs ++ ys) ∙ repeated-append (item_in xs k) xs ys ∙ ap (λ t. t || repeated d (item_in xs k) ys) (in_itself xs k h))
      ∙ left_again (xs ++ ys)

  -- and before the newer ones
  pub pool_newer : (xs ys : List Item) → last_only d (last_only d (xs ++ ys) ++ ys) ≡ last_only d (xs ++ ys)
  pool_newer xs ys =
      left_first (xs ++ ys) ys ∙ ap (last_only d) (append_assoc xs ys ys) ∙ left_after xs (ys ++ ys) ys (superseded ys ys (in_itself ys))

-- ---- all sixteen features decide what the first d do, where the others are 0

module _ (d : ℕ) (small : d ≤ feature_count) where
  -- the features past d are 0
  abbrev ZeroFrom : Item → Type 0
  ZeroFrom item = (i : ℕ) → d ≤ i → get_or item.features i (pos 0) ≡ pos 0

  -- of two items
  same_sixteen : (a b : Item) → ZeroFrom a → ZeroFrom b → same_features feature_count a b ≡ same_features d a b
  unfolding same_features
  same_sixteen a b za zb =
      let e : feature_count ≡ d + (feature_count - d) = omega arith in
      ap (λ (n : ℕ). all n same) e ∙ all_first same d (feature_count - d) (λ i h. equal_same (at a i) (at b i) (za i h ∙ sym (zb i h)))
    where
      at : Item → ℕ → ℤ
      at item i = get_or item.features i (pos 0)

      same : ℕ → Bool
      same i = equal (at a i) (at b i)

  -- of an item and a list
  repeated_sixteen : (item : Item) (items : List Item) → ZeroFrom item → ((k : ℕ) → k < length items → ZeroFrom (item_in items k))
      → repeated feature_count item items ≡ repeated d item items
  unfolding repeated
  repeated_sixteen item [] z zs = refl
  repeated_sixteen item (other ∷ others) z zs =
      λ j. same_sixteen item other z (zs 0 (omega arith)) j || repeated_sixteen item others z (λ k h. zs (suc k) (omega arith)) j

-- so of those that stay
pub sixteen_decide : (d : ℕ) (items : List Item) → d ≤ feature_count
    → ((k i : ℕ) → k < length items → d ≤ i → get_or (item_in items k).features i (pos 0) ≡ pos 0) → last_only feature_count items ≡ last_only d items
unfolding staying
sixteen_decide d [] small past = refl
sixteen_decide d (item ∷ items) small past =
    let later : (k i : ℕ) → k < length items → d ≤ i → get_or (item_in items k).features i (pos 0) ≡ pos 0 = λ k i h l. past (suc k) i (omega arith) l in
    let same = repeated_sixteen d small item items (λ i l. past 0 i (omega arith) l) (λ k h i l. later k i h l) in
    λ j. cond (not (same j)) (item ∷ sixteen_decide d items small later j) (sixteen_decide d items small later j)
