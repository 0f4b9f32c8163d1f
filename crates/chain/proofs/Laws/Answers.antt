-- Laws of the stages that walk the chain: what the walks along the chain keep, and what each finds. Assumes nothing.
use mathlib.Core.Path.{◌≡◌, refl, sym, ap, subst, ◌∙◌}
use mathlib.Core.Bool.{Bool, true, false, cond}
use Prim.Native.Nat.{ℕ, suc, min, ◌+◌, ◌≤◌, ◌<◌}
use mathlib.Core.List.{List, [], ◌∷◌, ◌++◌}
use native.Mathlib.Nat.{add-zero, add_assoc}
use native.Mathlib.Numerals.{add-one}
use native.Mathlib.Decide.{dec_le}
use native.Mathlib.Omega.{arith}
use lib.Dec.{leb, eqb}
use lib.ListN.{length, get_or, replicate, set, take, drop, drop_of_length-le, get_or-replicate, length-append, length-replicate, length-set}
use Rattle.std.proofs.Common.{Result, Ok, Err}
use borrow.Author.Tests.{le-leb, ne_eqb, leb-true, leb-false, eqb-true, eqb-false}
use lib.Seq.{append_snoc, drop-cons, drop-length, get_or-set_other, get_or-set_same, length-take-le, set_at, take_all, take-length, take-suc}
use Rattle.integers.proofs.Laws.Truth.{chose_first, chose_second}
use Rattle.integers.specs.Member.{member}
use Rattle.integers.proofs.Laws.Member.{member_last, member_other}
use Rattle.training_file.specs.declared.refusal.Refusal.{Refusal}
use Rattle.training_file.specs.declared.item.Label.TheVariants.{LookedUp}
use Rattle.training_file.specs.declared.refusal.Refusal.TheVariants as refusal
use Rattle.training_file.specs.Refusal.{refusal_at}
use Rattle.training_file.specs.Layout.{first_record, label_byte, next_of, records_stored}
use Rattle.training_file.specs.Parameters.{records_most}
use Rattle.training_file.specs.Item.{label_of_byte, same, labelled}
use Rattle.training_file.specs.Record.{Stored, record_allowed, every}
use Rattle.training_file.specs.Header.{WholeFile}
use Rattle.training_file.specs.Answers.{ok_if, record_answer}
use Rattle.training_file.proofs.Laws.Answers.{if_refused, if_why}
use Rattle.chain.specs.declared.link.Link.TheVariants.{Ended, Over, Next}
use Rattle.chain.specs.Walk.{Walk, Walked, broken, ends, last_of, led_to}
use Rattle.chain.specs.Chain.{ChainIn, chain_of}
use Rattle.chain.specs.Answers.{Chained, judge_answer, order_of, records_of, link_at, link_next, table_with, walk_answer}
use Rattle.chain.proofs.Laws.Walk.{Stops, last_at, last_snoc, led_snoc, stops_again, stops_ended, stops_over, walked_more, walked_most, walked_none}
use Rattle.chain.proofs.Laws.Chain.{chain_ends, stops_chain}

-- ---- what an answer says

pub walk_counted : (w : Walk) (n : ℕ) → walk_answer w ≡ Ok n → (w ≡ ends (records_of w)) × (n ≡ length (records_of w))
walk_counted (broken number r) n e = let z : ◌≡◌ {A = ℕ} 0 1 = cc in absurd (omega arith)
walk_counted (ends rs) n e = (refl, cc)

pub walk_refused : (w : Walk) (why : Refusal) → walk_answer w ≡ Err why → (number : ℕ) × ((r : ℕ) × (w ≡ broken number r))
walk_refused (broken number r) why e = (number, (r, refl))
walk_refused (ends rs) why e = let z : ◌≡◌ {A = ℕ} 0 1 = cc in absurd (omega arith)

-- ---- what a file of the right length holds

-- a number of 1 to m is that of a record that stands whole in the file
pub whole_stored : (file : List ℕ) (r : ℕ) → WholeFile file → 1 ≤ r → r ≤ records_stored file → Stored file r
whole_stored file r h l u = record { numbered = l; whole = omega arith }

-- ---- stage 3: the walk that looks for the chain's end

-- where the walk stands after the records met: each has its mark, and no other number has one
pub record Passed (file : List ℕ) (marks : List Bool) (last number met : ℕ) : Type 0 where
  pub records : List ℕ
  pub walked : Walked (next_of file) (records_stored file) (first_record file) records
  pub counted : met ≡ length records
  pub ends_with : last ≡ last_of records
  pub at : number ≡ led_to (next_of file) (first_record file) records
  pub places : length marks ≡ suc records_most
  pub marked : (r : ℕ) → r ≤ records_most → get_or marks r false ≡ member r records

-- a mark more
mark_set : (records : List ℕ) (marks : List Bool) (number r : ℕ) → number < length marks → get_or marks r false ≡ member r records
    → get_or (set marks number true) r false ≡ member r (records ++ (number ∷ []))
mark_set records marks number r held before = by (eqb r number) refl
  where
    by : (t : Bool) → eqb r number ≡ t → get_or (set marks number true) r false ≡ member r (records ++ (number ∷ []))
    by true e =
        let same = eqb-true r number e in
        rw same (get_or-set_same marks number true false held ∙ sym (member_last records number))
    by false e =
        let other = eqb-false r number e in
        get_or-set_other marks number r true false other ∙ before ∙ sym (member_other r records number other)

-- before the first record is met there is none
pub passed_first : (file : List ℕ) → Passed file (replicate (suc records_most) false) 0 (first_record file) 0
passed_first file =
    record {
      records = [];
      walked = walked_none (next_of file) (records_stored file) (first_record file);
      counted = refl;
      ends_with = refl;
      at = refl;
      places = length-replicate {A = Bool} (suc records_most) false;
      marked = λ r h. get_or-replicate {A = Bool} (suc records_most) r false false (omega arith);
    }

module _ (file : List ℕ) (marks : List Bool) (last number met : ℕ) (p : Passed file marks last number met) where
  -- the last record met is one of those stored, or none was met
  pub passed_last : last ≤ records_stored file
  passed_last = rw p.ends_with (by p.records p.walked.within)
    where
      by : (rs : List ℕ) → ((k : ℕ) → k < length rs → (1 ≤ get_or rs k 0) × (get_or rs k 0 ≤ records_stored file)) → last_of rs ≤ records_stored file
      by [] w = omega arith
      by (r ∷ rs) w = rw (last_at (r ∷ rs) (length rs) refl) (w (length rs) (omega arith)).1

  -- the walk stops where it is led to a number that it does not go on to
  passed_stops : (w : Walk) → Stops (records_stored file) p.records number w → chain_of file ≡ w
  passed_stops w s =
      stops_chain (next_of file) (records_stored file) (first_record file) p.records w p.walked
      (subst (λ n. Stops (records_stored file) p.records n w) p.at s)

  passed_broken : (refused : ℕ) → Stops (records_stored file) p.records number (broken refused (last_of p.records))
      → walk_answer (chain_of file) ≡ Err (refusal_at refused last)
  passed_broken refused s =
      ap walk_answer (passed_stops (broken refused (last_of p.records)) s) ∙ ap (λ r. Err (refusal_at refused r)) (sym p.ends_with)

  -- so each link says what the chain is, or that the number is a record's

  pub link_ended : (n : ℕ) → link_at file number met ≡ Ended n → walk_answer (chain_of file) ≡ Ok n
  link_ended n e =
      let chose = chose_first (eqb number 0) (not_ended (leb number (records_stored file)) (next_of file number) n) e in
      let counts : met ≡ n = let same = chose.1 in cc in
      ap walk_answer (passed_stops (ends p.records) (stops_ended (records_stored file) p.records number (eqb-true number 0 chose.0)))
      ∙ ap Ok (sym p.counted ∙ counts)
    where
      not_ended : (b : Bool) (next n : ℕ) → cond b (Next next) Over ≡ Ended n → ⊥
      not_ended true next n q = let z : ◌≡◌ {A = ℕ} 0 1 = cc in omega arith
      not_ended false next n q = let z : ◌≡◌ {A = ℕ} 0 1 = cc in omega arith

  pub link_over : link_at file number met ≡ Over → walk_answer (chain_of file) ≡ Err (refusal_at 3 last)
  link_over e =
      let past = chose_second (eqb number 0) (λ q. let z : ◌≡◌ {A = ℕ} 0 1 = cc in omega arith) e in
      let stops = chose_second (leb number (records_stored file)) (λ q. let z : ◌≡◌ {A = ℕ} 0 1 = cc in omega arith) past.1 in
      passed_broken 3 (stops_over (records_stored file) p.records number (leb-false number (records_stored file) stops.0))

  pub link_next_lem : (n : ℕ) → link_at file number met ≡ Next n → (1 ≤ number) × (number ≤ records_stored file) × (next_of file number ≡ n)
  link_next_lem n e =
      let past = chose_second (eqb number 0) (λ q. let z : ◌≡◌ {A = ℕ} 0 1 = cc in omega arith) e in
      let on = chose_first (leb number (records_stored file)) (λ q. let z : ◌≡◌ {A = ℕ} 0 1 = cc in omega arith) past.1 in
      let not-zero = eqb-false number 0 past.0 in
      (omega arith, leb-true number (records_stored file) on.0, let same = on.1 in cc)

  -- of a record, which has its mark exactly where it was met before
  module _ (most : records_stored file ≤ records_most) (l : 1 ≤ number) (u : number ≤ records_stored file) where
    pub mark_again : get_or marks number false ≡ true → walk_answer (chain_of file) ≡ Err (refusal_at 16 last)
    mark_again h = passed_broken 16 (stops_again (records_stored file) p.records number l u (sym (p.marked number (omega arith)) ∙ h))

    pub mark_new : get_or marks number false ≡ false → Passed file (set marks number true) number (next_of file number) (met + 1)
    mark_new h =
        record {
          records = p.records ++ (number ∷ []);
          walked =
              walked_more (next_of file) (records_stored file) (first_record file) p.records number p.walked (sym p.at) l u (sym (p.marked number (omega arith)) ∙ h);
          counted = omega (arith, p.counted, length-append p.records (number ∷ []));
          ends_with = sym (last_snoc p.records number);
          at = sym (led_snoc (next_of file) (first_record file) p.records number);
          places = length-set marks number true ∙ p.places;
          marked = λ r b. mark_set p.records marks number r (omega (arith, p.places)) (p.marked r b);
        }

    -- one more was met, and no walk meets more than are stored
    pub mark_left : get_or marks number false ≡ false → met < records_stored file
    mark_left h =
        let passed = mark_new h in
        omega (arith, passed.counted, walked_most (next_of file) (records_stored file) (first_record file) passed.records passed.walked)

-- ---- a chain that ends: its record numbers, place by place

module _ (file : List ℕ) (n : ℕ) (chained : Chained file n) where
  order_is_chain : ChainIn file (order_of file)
  order_is_chain = (chain_ends (next_of file) (records_stored file) (first_record file) (order_of file)).0 chained.ended

  pub order_first : first_record file ≡ get_or (order_of file) 0 0
  order_first = sym order_is_chain.starts

  pub order_within : (k : ℕ) → k < n → (1 ≤ get_or (order_of file) k 0) × (get_or (order_of file) k 0 ≤ records_stored file)
  order_within k h = order_is_chain.walked.within k (rw chained.counted at h)

  -- of the record that stands at place k of the order
  module _ (k number : ℕ) (h : k < n) (e : number ≡ get_or (order_of file) k 0) where
    pub order_stored : Stored file number
    order_stored =
        subst (Stored file) (sym e)
        (whole_stored file (get_or (order_of file) k 0) chained.file_whole (order_within k h).0 (order_within k h).1)

    -- a link is found at the record, and leads to the one at the next place
    order_link : link_at file number k ≡ Next (next_of file number)
    order_link =
        let within : number ≤ records_stored file = omega (arith, (order_within k h).1) in
        rw (ne_eqb number 0 (λ z. omega (arith, (order_within k h).0)), le-leb number (records_stored file) within)

    order_next : link_next (link_at file number k) ≡ get_or (order_of file) (k + 1) 0
    order_next =
        ap link_next order_link
        ∙ ap (next_of file) e
        ∙ order_is_chain.links k (rw chained.counted at h)
        ∙ ap (λ (j : ℕ). get_or (order_of file) j 0) (sym (add-one k))

    -- so does the walker there, on what it holds
    pub on_next : (seen : List ℕ) (met : ℕ) → seen ≡ file → met ≡ k → link_next (link_at seen number met) ≡ get_or (order_of file) (k + 1) 0
    on_next seen met same counted = rw (same, counted) order_next

-- ---- stage 4: the walk that judges the records

module _ (d : ℕ) (file : List ℕ) where
  pub judge_none : (k : ℕ) → judge_answer d file k [] ≡ Ok k
  unfolding every labelled
  judge_none k = ap Ok (add-zero k)

  pub judge_refused : (k p : ℕ) (rs : List ℕ) (why : Refusal) → p < length rs → record_answer d file (get_or rs p 0) ≡ Err why
      → judge_answer d file k (drop p rs) ≡ Err why
  unfolding every
  judge_refused k p rs why l e = rw (drop-cons rs p 0 l, if_refused _ _ _ why e) (ap Err (if_why _ _ _ why e))

  pub judge_allowed : (k p s : ℕ) (rs : List ℕ) → p < length rs → record_allowed d file (get_or rs p 0) ≡ true
      → s ≡ same LookedUp (label_of_byte (label_byte file (get_or rs p 0))) → judge_answer d file k (drop p rs) ≡ judge_answer d file (k + s) (drop (p + 1) rs)
  unfolding every labelled
  judge_allowed k p s rs l h e =
      rw (add-one p, drop-cons rs p 0 l, h, e)
      (ap (λ k. ok_if (every (record_allowed d file) (drop (suc p) rs)) k refusal.Record) (sym (add_assoc _ _ _)))

-- ---- the walk that writes the order down

pub fill_more : (rs table : List ℕ) (k v : ℕ) → k < length rs → k < length table → v ≡ get_or rs k 0
    → set (take k rs ++ drop k table) k v ≡ take (k + 1) rs ++ drop (k + 1) table
fill_more rs table k v l h e =
    rw (add-one k, drop-cons table k 0 h, take-suc rs k 0 l, append_snoc, e)
    (set_at (take k rs) (get_or table k 0) (drop (suc k) table) (get_or rs k 0) k (length-take-le k rs (omega arith)))

pub fill_done : (rs table : List ℕ) (k : ℕ) → k ≡ min (length rs) (length table)
    → take k rs ++ drop k table ≡ table_with rs table
fill_done rs table k e = go (dec_le (length rs) (length table))
  where
    go : Dec (length rs ≤ length table) → take k rs ++ drop k table ≡ table_with rs table
    go (yes h) =
        let all : k ≡ length rs = omega arith in
        rw (all, take-length rs, take_all (length table) rs h)
    go (no h) =
        let all : k ≡ length table = omega arith in
        rw (all, drop-length table, drop_of_length-le table {i = length rs} (omega arith))
