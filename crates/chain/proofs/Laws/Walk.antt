-- Laws of the walk (Walk). In order: numbers and lists; where a walk is led, whether it goes on, and what it comes to; the records met, at
-- most m; those met after m turns. Assumes nothing.
use mathlib.Core.Path.{◌≡◌, refl, sym, ap, ◌∙◌, subst}
use mathlib.Core.Logic.{◌≢◌, ◌⊎◌, inl, inr, ⊎_elim, ⊎_map}
use mathlib.Core.Bool.{Bool, true, false, ◌&&◌, not, cond}
use mathlib.Core.List.{List, [], ◌∷◌, ◌++◌}
use Prim.Native.Nat.{ℕ, zero, suc, ◌+◌, ◌-◌, ◌≤◌, ◌<◌, zero-le, suc-le-suc}
use native.Mathlib.Nat.{eq-or-lt_of_le}
use native.Mathlib.Omega.{arith}
use lib.Dec.{ltb, leb, eqb}
use lib.ListN.{length, get_or, take, length-append, get_or-append}
use lib.Seq.{get_or-append_seam, get_or-take, length-take-le, take-length, take-suc}
use borrow.Author.Tests.{ltb-true, ltb-false, leb-true, le-ltb, lt-ltb, le-leb, lt-leb, ne_eqb, eqb-true, eqb-false, not-true}
use Rattle.integers.specs.Member.{member}
use Rattle.integers.proofs.Laws.Member.{member_false, no_member}
use Rattle.integers.proofs.Laws.Truth.{&&_both, &&_false_right, clash, not_false_true, not_true_false}
use Rattle.chain.specs.Walk.{Walk, Walked, broken, comes_to, ends, goes_on, last_of, led_to, records_met}

-- ---- the pigeonhole principle

-- x, with b in the place of a
swap : ℕ → ℕ → ℕ → ℕ
swap a b x = elim (eqb x a) [ true ↦ b | false ↦ x ]

swap_cases : (a b x : ℕ) → ((x ≡ a) × (swap a b x ≡ b)) ⊎ ((x ≢ a) × (swap a b x ≡ x))
unfolding swap
swap_cases a b x = by (eqb x a) refl
  where
    by : (t : Bool) → eqb x a ≡ t → ((x ≡ a) × (swap a b x ≡ b)) ⊎ ((x ≢ a) × (swap a b x ≡ x))
    by true e = inl (eqb-true x a e, rw (e, swap))
    by false e = inr (eqb-false x a e, rw (e, swap))

-- n different numbers of 1 to m: n is at most m
pigeonhole : (n m : ℕ) (f : ℕ → ℕ) → ((k : ℕ) → k < n → (1 ≤ f k) × (f k ≤ m))
    → ((j k : ℕ) → j < k → k < n → f j ≢ f k) → n ≤ m
pigeonhole zero m f w d = zero-le
pigeonhole (suc n) zero f w d = let h = w 0 (omega arith) in absurd (omega arith)
pigeonhole (suc n) (suc m) f w d = suc-le-suc (pigeonhole n m g g_within g_distinct)
  where
    -- the last number stands in for the greatest, and n numbers of 1 to m are left
    g : ℕ → ℕ
    g k = swap (suc m) (f n) (f k)

    g_within : (k : ℕ) → k < n → (1 ≤ g k) × (g k ≤ m)
    g_within k h =
        let wk = w k (omega arith) in
        let wn = w n (omega arith) in
        let dk : f k ≢ f n = d k n h (omega arith) in
        ⊎_elim (λ s. omega arith) (λ s. omega arith) (swap_cases (suc m) (f n) (f k))

    g_distinct : (j k : ℕ) → j < k → k < n → g j ≢ g k
    g_distinct j k l h e =
        let dj : f j ≢ f n = d j n (omega arith) (omega arith) in
        let dk : f k ≢ f n = d k n (omega arith) (omega arith) in
        let djk : f j ≢ f k = d j k l (omega arith) in
        let at-k = swap_cases (suc m) (f n) (f k) in
        ⊎_elim
        (λ s. ⊎_elim (λ t. omega arith) (λ t. omega arith) at-k)
        (λ s. ⊎_elim (λ t. omega arith) (λ t. omega arith) at-k)
        (swap_cases (suc m) (f n) (f j))

-- ---- one more record at the end of a list

snoc_cases : (rs : List ℕ) (r k : ℕ) → k < length (rs ++ (r ∷ []))
    → ((k ≡ length rs) × (get_or (rs ++ (r ∷ [])) k 0 ≡ r)) ⊎ ((k < length rs) × (get_or (rs ++ (r ∷ [])) k 0 ≡ get_or rs k 0))
snoc_cases rs r k h = ⊎_map last earlier (eq-or-lt_of_le (omega (arith, length-append rs (r ∷ []))))
  where
    last : k ≡ length rs → (k ≡ length rs) × (get_or (rs ++ (r ∷ [])) k 0 ≡ r)
    last e = (e, rw e (get_or-append_seam rs r [] 0))

    earlier : k < length rs → (k < length rs) × (get_or (rs ++ (r ∷ [])) k 0 ≡ get_or rs k 0)
    earlier l = (l, get_or-append rs (r ∷ []) 0 k l)

-- ---- the last record met, and where it leads

pub last_snoc : (met : List ℕ) (r : ℕ) → last_of (met ++ (r ∷ [])) ≡ r
last_snoc [] r = refl
last_snoc (x ∷ []) r = refl
last_snoc (x ∷ y ∷ met) r = last_snoc (y ∷ met) r

pub last_at : (met : List ℕ) (k : ℕ) → suc k ≡ length met → last_of met ≡ get_or met k 0
last_at [] k e = absurd (omega arith)
last_at (x ∷ []) zero e = refl
last_at (x ∷ []) (suc k) e = absurd (omega arith)
last_at (x ∷ y ∷ met) zero e = absurd (omega arith)
last_at (x ∷ y ∷ met) (suc k) e = last_at (y ∷ met) k (omega arith)

pub led_snoc : (next : ℕ → ℕ) (first : ℕ) (met : List ℕ) (r : ℕ) → led_to next first (met ++ (r ∷ [])) ≡ next r
led_snoc next first [] r = refl
led_snoc next first (x ∷ met) r = ap next (last_snoc (x ∷ met) r)

pub led_at : (next : ℕ → ℕ) (first : ℕ) (met : List ℕ) (k : ℕ) → suc k ≡ length met → led_to next first met ≡ next (get_or met k 0)
led_at next first [] k e = absurd (omega arith)
led_at next first (x ∷ met) k e = ap next (last_at (x ∷ met) k e)

-- ---- whether a walk goes on to a number, and what it comes to there

module _ (m : ℕ) (met : List ℕ) (number : ℕ) where
  goes_on_lem : 1 ≤ number → number ≤ m → member number met ≡ false → goes_on m met number ≡ true
  goes_on_lem l h e = rw (le-leb 1 number l, le-leb number m h, e)

  went_on : goes_on m met number ≡ true → (1 ≤ number) × (number ≤ m) × (member number met ≡ false)
  went_on e =
      let both = &&_both (leb 1 number && leb number m) (not (member number met)) e in
      let range = &&_both (leb 1 number) (leb number m) both.0 in
      (leb-true 1 number range.0, leb-true number m range.1, not-true (member number met) both.1)

  -- that a walk which has met these records and is led to this number does not go on, and comes to w
  pub record Stops (w : Walk) : Type 0 where
    pub stays : goes_on m met number ≡ false
    pub there : comes_to m met number ≡ w

  pub stops_ended : number ≡ 0 → Stops (ends met)
  stops_ended e = record { stays = rw e; there = rw e }

  pub stops_over : m < number → Stops (broken 3 (last_of met))
  stops_over h =
      record {
        stays = rw (lt-leb number m h, &&_false_right (leb 1 number) refl);
        there = rw (ne_eqb number 0 (λ z. omega arith), lt-ltb m number h);
      }

  pub stops_again : 1 ≤ number → number ≤ m → member number met ≡ true → Stops (broken 16 (last_of met))
  stops_again l h e =
      record {
        stays = rw (le-leb 1 number l, le-leb number m h, e);
        there = rw (ne_eqb number 0 (λ z. omega arith), le-ltb m number h);
      }

  -- and back
  pub stopped_ends : (rs : List ℕ) → Stops (ends rs) → (number ≡ 0) × (met ≡ rs)
  stopped_ends rs s = by (eqb number 0) (ltb m number) refl s.there
    where
      by : (t u : Bool) → eqb number 0 ≡ t → cond t (ends met) (cond u (broken 3 (last_of met)) (broken 16 (last_of met))) ≡ ends rs
          → (number ≡ 0) × (met ≡ rs)
      by true u e q = (eqb-true number 0 e, cc)
      by false true e q = let z : ◌≡◌ {A = ℕ} 0 1 = cc in absurd (omega arith)
      by false false e q = let z : ◌≡◌ {A = ℕ} 0 1 = cc in absurd (omega arith)

  pub stopped_broken : (refused r : ℕ) → Stops (broken refused r)
      → (((refused ≡ 3) × (m < number)) ⊎ ((refused ≡ 16) × (member number met ≡ true))) × (last_of met ≡ r)
  stopped_broken refused r s = by (eqb number 0) (ltb m number) refl refl s.there
    where
      -- a record stored that the walk does not go on to was met
      again : eqb number 0 ≡ false → ltb m number ≡ false → member number met ≡ true
      again e o =
          let other = eqb-false number 0 e in
          not_false_true (member number met) (λ new. clash (goes_on_lem (omega arith) (ltb-false m number o) new) s.stays)

      by : (t u : Bool) → eqb number 0 ≡ t → ltb m number ≡ u
          → cond t (ends met) (cond u (broken 3 (last_of met)) (broken 16 (last_of met))) ≡ broken refused r
          → (((refused ≡ 3) × (m < number)) ⊎ ((refused ≡ 16) × (member number met ≡ true))) × (last_of met ≡ r)
      by true u e o q = let z : ◌≡◌ {A = ℕ} 0 1 = cc in absurd (omega arith)
      by false true e o q = (inl (cc, ltb-true m number o), cc)
      by false false e o q = (inr (cc, again e o), cc)

module _ (next : ℕ → ℕ) (m first : ℕ) where
  -- ---- the records met

  pub walked_none : Walked next m first []
  walked_none =
      record {
        starts = λ h. absurd (omega arith);
        within = λ k h. absurd (omega arith);
        links = λ k h. absurd (omega arith);
        distinct = λ j k l h. absurd (omega arith);
      }

  -- a walk meets at most m records
  pub walked_most : (met : List ℕ) → Walked next m first met → length met ≤ m
  walked_most met w = pigeonhole (length met) m (λ k. get_or met k 0) w.within w.distinct

  -- a walk that has met some of them is led to the one after
  walked_led : (met : List ℕ) → Walked next m first met → (k : ℕ) → k < length met → led_to next first (take k met) ≡ get_or met k 0
  walked_led met w zero h = sym (w.starts h)
  walked_led met w (suc k) h =
      ap (led_to next first) (take-suc met k 0 (omega arith)) ∙ led_snoc next first (take k met) (get_or met k 0) ∙ w.links k h

  -- and goes on to it: no record before the last is at fault
  pub walked_goes : (met : List ℕ) → Walked next m first met → (k : ℕ) → k < length met
      → goes_on m (take k met) (led_to next first (take k met)) ≡ true
  walked_goes met w k h =
      ap (goes_on m (take k met)) (walked_led met w k h)
      ∙ goes_on_lem m (take k met) (get_or met k 0) (w.within k h).0 (w.within k h).1 (no_member (get_or met k 0) (take k met) others)
    where
      others : (j : ℕ) → j < length (take k met) → get_or (take k met) j 0 ≢ get_or met k 0
      others j l q =
          let earlier : j < k = omega (arith, length-take-le k met (omega arith)) in
          w.distinct j k earlier h (sym (get_or-take k met j 0 earlier) ∙ q)

  -- a record that is led to and new joins them
  pub walked_more : (met : List ℕ) (r : ℕ) → Walked next m first met → led_to next first met ≡ r → 1 ≤ r → r ≤ m → member r met ≡ false
      → Walked next m first (met ++ (r ∷ []))
  walked_more met r w led l h e = record { starts = starts'; within = within'; links = links'; distinct = distinct' }
    where
      more : List ℕ
      more = met ++ (r ∷ [])

      starts' : 0 < length more → get_or more 0 0 ≡ first
      starts' b = by met led w.starts
        where
          by : (rs : List ℕ) → led_to next first rs ≡ r → (0 < length rs → get_or rs 0 0 ≡ first) → get_or (rs ++ (r ∷ [])) 0 0 ≡ first
          by [] q s = sym q
          by (x ∷ rs) q s = s (omega arith)

      within' : (k : ℕ) → k < length more → (1 ≤ get_or more k 0) × (get_or more k 0 ≤ m)
      within' k b = ⊎_elim (λ s. omega arith) (λ s. let v = w.within k s.0 in omega arith) (snoc_cases met r k b)

      links' : (k : ℕ) → suc k < length more → next (get_or more k 0) ≡ get_or more (suc k) 0
      links' k b =
          let short : k < length met = omega (arith, length-append met (r ∷ [])) in
          ap next (get_or-append met (r ∷ []) 0 k short)
          ∙ ⊎_elim (λ s. sym (led_at next first met k s.0) ∙ led ∙ sym s.1) (λ s. w.links k s.0 ∙ sym s.1) (snoc_cases met r (suc k) b)

      distinct' : (j k : ℕ) → j < k → k < length more → get_or more j 0 ≢ get_or more k 0
      distinct' j k a b q =
          ⊎_elim
          (λ s. let d = member_false r met e j (omega arith) in omega (arith, get_or-append met (r ∷ []) 0 j (omega arith)))
          (λ s. let d = w.distinct j k a s.0 in omega (arith, get_or-append met (r ∷ []) 0 j (omega arith)))
          (snoc_cases met r k b)

  -- so the one that a walk goes on to does
  walked_on : (met : List ℕ) → Walked next m first met → goes_on m met (led_to next first met) ≡ true
      → Walked next m first (met ++ (led_to next first met ∷ []))
  walked_on met w e =
      let new = went_on m met (led_to next first met) e in
      walked_more met (led_to next first met) w refl new.0 new.1 new.2

  -- ---- after m turns a walk has met all records that it meets

  -- that a walk meets these records and goes on to no other
  pub record MeetsAll (met : List ℕ) : Type 0 where
    pub walked : Walked next m first met
    pub stays : goes_on m met (led_to next first met) ≡ false

  -- a turn of a walk that goes on, and the turns of one that does not
  met_more : (turns : ℕ) (met : List ℕ) → goes_on m met (led_to next first met) ≡ true
      → records_met next m first (suc turns) met ≡ records_met next m first turns (met ++ (led_to next first met ∷ []))
  unfolding records_met
  met_more turns met e = rw e

  met_no_more : (turns : ℕ) (met : List ℕ) → goes_on m met (led_to next first met) ≡ false → records_met next m first turns met ≡ met
  unfolding records_met
  met_no_more zero met e = refl
  met_no_more (suc turns) met e = rw e

  met_here : (turns : ℕ) (met : List ℕ) → MeetsAll met → MeetsAll (records_met next m first turns met)
  met_here turns met all = subst MeetsAll (sym (met_no_more turns met all.stays)) all

  -- the turns that are left of m suffice
  met_within : (turns : ℕ) (met : List ℕ) → Walked next m first met → m ≤ turns + length met → MeetsAll (records_met next m first turns met)
  met_within zero met w h = met_here zero met (record { walked = w; stays = not_true_false (goes_on m met (led_to next first met)) none_left })
    where
      none_left : goes_on m met (led_to next first met) ≡ true → ⊥
      none_left e = omega (arith, walked_most _ (walked_on met w e), length-append met (led_to next first met ∷ []))
  met_within (suc turns) met w h = by (goes_on m met (led_to next first met)) refl (met_within turns)
    where
      by : (t : Bool) → goes_on m met (led_to next first met) ≡ t
          → ((more : List ℕ) → Walked next m first more → m ≤ turns + length more → MeetsAll (records_met next m first turns more))
          → MeetsAll (records_met next m first (suc turns) met)
      by true e below =
          subst MeetsAll (sym (met_more turns met e))
          (below _ (walked_on met w e) (omega (arith, length-append met (led_to next first met ∷ []))))
      by false e below = met_here (suc turns) met (record { walked = w; stays = e })

  -- so m turns do from the first record on
  pub walk_stops : MeetsAll (records_met next m first m [])
  walk_stops = met_within m [] walked_none (omega arith)

  -- a walk meets the records that it is to meet, one in each turn
  met_along : (met : List ℕ) → Walked next m first met → (k turns : ℕ) → k ≤ length met
      → records_met next m first (k + turns) [] ≡ records_met next m first turns (take k met)
  met_along met w zero turns h = ap (λ t. records_met next m first t []) (let e : 0 + turns ≡ turns = omega arith in e)
  met_along met w (suc k) turns h =
      ap (λ t. records_met next m first t []) (let e : suc k + turns ≡ k + suc turns = omega arith in e)
      ∙ met_along met w k (suc turns) (omega arith)
      ∙ met_more turns (take k met) (walked_goes met w k h)
      ∙ ap (records_met next m first turns) (ap (λ r. take k met ++ (r ∷ [])) (walked_led met w k h) ∙ sym (take-suc met k 0 h))

  -- so no others are all that it meets
  pub met_all : (met : List ℕ) → MeetsAll met → records_met next m first m [] ≡ met
  met_all met all =
      let few = walked_most met all.walked in
      let left = m - length met in
      ap (λ t. records_met next m first t []) (let e : m ≡ length met + left = omega arith in e)
      ∙ met_along met all.walked (length met) left (omega arith)
      ∙ ap (records_met next m first left) (take-length met)
      ∙ met_no_more left met all.stays
