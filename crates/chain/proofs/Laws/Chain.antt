-- Laws of the chain (Chain): it is what the walk comes to; the records that it ends with, and the record at which it breaks; files that
-- agree. Assumes nothing.
use mathlib.Core.Path.{◌≡◌, refl, sym, ap, ◌∙◌, subst}
use mathlib.Core.Bool.{true}
use mathlib.Core.Logic.{◌↔◌, ◌⊎◌, ⊎_elim, ⊎_map}
use mathlib.Core.List.{List, [], ◌∷◌}
use Prim.Native.Nat.{ℕ, suc, ◌≤◌, ◌<◌}
use native.Mathlib.Nat.{eq-or-lt_of_le}
use native.Mathlib.Omega.{arith}
use lib.ListN.{length, get_or, get_or-eq_default}
use Rattle.integers.specs.Member.{member}
use Rattle.integers.proofs.Laws.Member.{is_member, member_true}
use Rattle.chain.specs.Walk.{Walk, Walked, broken, comes_to, ends, last_of, led_to, records_met}
use Rattle.chain.specs.Chain.{IsChain, IsFault, chain}
use Rattle.chain.proofs.Laws.Walk.{Stops, last_at, led_at, met_all, stopped_broken, stopped_ends, stops_again, stops_ended, stops_over, walk_stops, walked_most}

module _ (next : ℕ → ℕ) (m first : ℕ) where
  -- ---- the chain is what the walk comes to, where it stops

  pub stops_chain : (met : List ℕ) (w : Walk) → Walked next m first met → Stops m met (led_to next first met) w → chain next m first ≡ w
  stops_chain met w walked s =
      ap (λ rs. comes_to m rs (led_to next first rs)) (met_all next m first met (record { walked = walked; stays = s.stays })) ∙ s.there

  -- the records with which it stops
  abbrev all_met : List ℕ
  all_met = records_met next m first m []

  all_walked : Walked next m first all_met
  all_walked = (walk_stops next m first).walked

  chain_stops : (w : Walk) → chain next m first ≡ w → Stops m all_met (led_to next first all_met) w
  chain_stops w e = record { stays = (walk_stops next m first).stays; there = e }

  -- ---- the records that it ends with

  -- a chain has at most m records
  pub chain_length : (rs : List ℕ) → IsChain next m first rs → length rs ≤ m
  chain_length rs c = walked_most next m first rs c.walked

  -- the walk meets all its records, and is led to 0
  chain_led : (rs : List ℕ) → IsChain next m first rs → led_to next first rs ≡ 0
  chain_led rs c = by rs c.starts c.links
    where
      by : (qs : List ℕ) → get_or qs 0 0 ≡ first → ((k : ℕ) → k < length qs → next (get_or qs k 0) ≡ get_or qs (suc k) 0) → led_to next first qs ≡ 0
      by [] s l = sym s
      by (q ∷ qs) s l =
          led_at next first (q ∷ qs) (length qs) refl
          ∙ l (length qs) (omega arith)
          ∙ get_or-eq_default (q ∷ qs) 0 {n = suc (length qs)} (omega arith)

  led_chain : (rs : List ℕ) → Walked next m first rs → led_to next first rs ≡ 0 → IsChain next m first rs
  led_chain rs w e = record { walked = w; starts = starts' rs w.starts e; links = links' }
    where
      starts' : (qs : List ℕ) → (0 < length qs → get_or qs 0 0 ≡ first) → led_to next first qs ≡ 0 → get_or qs 0 0 ≡ first
      starts' [] s q = sym q
      starts' (x ∷ qs) s q = s (omega arith)

      links' : (k : ℕ) → k < length rs → next (get_or rs k 0) ≡ get_or rs (suc k) 0
      links' k h =
          ⊎_elim
          (λ last. sym (led_at next first rs k last) ∙ e ∙ sym (get_or-eq_default rs 0 (omega arith)))
          (λ inner. w.links k inner)
          (eq-or-lt_of_le h)

  ends_chain : (rs : List ℕ) → chain next m first ≡ ends rs → IsChain next m first rs
  ends_chain rs e =
      let stopped = stopped_ends m all_met (led_to next first all_met) rs (chain_stops (ends rs) e) in
      subst (IsChain next m first) stopped.1 (led_chain all_met all_walked stopped.0)

  pub chain_complete : (rs : List ℕ) → IsChain next m first rs → chain next m first ≡ ends rs
  chain_complete rs c = stops_chain rs (ends rs) c.walked (stops_ended m rs (led_to next first rs) (chain_led rs c))

  -- the walk ends with rs exactly when rs is the chain
  pub chain_ends : (rs : List ℕ) → (chain next m first ≡ ends rs) ↔ IsChain next m first rs
  chain_ends rs = (ends_chain rs, chain_complete rs)

  -- ---- the record at which it breaks

  broken_fault : (number r : ℕ) → first ≤ m → chain next m first ≡ broken number r → IsFault next m first number r
  broken_fault number r few e =
      let stopped = stopped_broken m all_met (led_to next first all_met) number r (chain_stops (broken number r) e) in
      by all_met all_walked stopped.1 stopped.0
    where
      -- the record is the last one met, since the first of the chain isn't at fault
      by : (met : List ℕ) → Walked next m first met → last_of met ≡ r
          → ((number ≡ 3) × (m < led_to next first met)) ⊎ ((number ≡ 16) × (member (led_to next first met) met ≡ true)) → IsFault next m first number r
      by [] w last fault = absurd (⊎_elim (λ p. omega (arith, p.1)) (λ p. omega (arith, (member_true first [] p.1).1)) fault)
      by (x ∷ met) w last fault =
          record {
            met = x ∷ met;
            walked = w;
            place = length met;
            last = refl;
            is = sym (last_at (x ∷ met) (length met) refl) ∙ last;
            fault = ⊎_map (λ p. (p.0, subst (λ n. m < next n) last p.1)) (λ p. (p.0, among p.1)) fault;
          }
        where
          among : member (next (last_of (x ∷ met))) (x ∷ met) ≡ true → (k : ℕ) × (k ≤ length met) × (get_or (x ∷ met) k 0 ≡ next r)
          among e = let at = member_true (next (last_of (x ∷ met))) (x ∷ met) e in (at.0, omega (arith, at.1), at.2 ∙ ap next last)

  fault_broken : (number r : ℕ) → IsFault next m first number r → chain next m first ≡ broken number r
  fault_broken number r f = ⊎_elim for_3 for_16 f.fault
    where
      last_is : last_of f.met ≡ r
      last_is = last_at f.met f.place f.last ∙ f.is

      led_is : led_to next first f.met ≡ next r
      led_is = led_at next first f.met f.place f.last ∙ ap next f.is

      for_3 : (number ≡ 3) × (m < next r) → chain next m first ≡ broken number r
      for_3 p =
          stops_chain f.met (broken 3 (last_of f.met)) f.walked (stops_over m f.met (led_to next first f.met) (rw led_is p.1))
          ∙ λ i. broken (sym p.0 i) (last_is i)

      for_16 : (number ≡ 16) × ((k : ℕ) × (k ≤ f.place) × (get_or f.met k 0 ≡ next r)) → chain next m first ≡ broken number r
      for_16 p =
          let k = p.1.0 in
          let held : k < length f.met = omega (arith, p.1.1, f.last) in
          let to = p.1.2 ∙ sym led_is in
          let range = f.walked.within k held in
          stops_chain f.met (broken 16 (last_of f.met)) f.walked
          (stops_again m f.met (led_to next first f.met) (omega (arith, to, range.0)) (omega (arith, to, range.1))
          (is_member (led_to next first f.met) f.met k held to))
          ∙ λ i. broken (sym p.0 i) (last_is i)

  -- the chain breaks at r with a number exactly when the next field of r is so at fault, the first on the walk
  pub chain_broken : (number r : ℕ) → first ≤ m → (chain next m first ≡ broken number r) ↔ IsFault next m first number r
  chain_broken number r few = (broken_fault number r few, fault_broken number r)

  -- it breaks exactly when no records are the chain
  pub chain_none : ((number : ℕ) × ((r : ℕ) × (chain next m first ≡ broken number r))) ↔ ((rs : List ℕ) → ¬ IsChain next m first rs)
  chain_none = (refuses, breaks)
    where
      refuses : (number : ℕ) × ((r : ℕ) × (chain next m first ≡ broken number r)) → (rs : List ℕ) → ¬ IsChain next m first rs
      refuses b rs c = let q = sym b.1.1 ∙ chain_complete rs c in let z : ◌≡◌ {A = ℕ} 0 1 = cc in omega arith

      breaks : ((rs : List ℕ) → ¬ IsChain next m first rs) → (number : ℕ) × ((r : ℕ) × (chain next m first ≡ broken number r))
      breaks none_is = by (chain next m first) refl
        where
          by : (w : Walk) → chain next m first ≡ w → (number : ℕ) × ((r : ℕ) × (chain next m first ≡ broken number r))
          by (ends rs) e = absurd (none_is rs (ends_chain rs e))
          by (broken number r) e = (number, (r, e))

-- ---- files that agree

-- "numbers in spare records do not count": the chain is the same where the records that a walk meets have the same next
pub chain_spare : (f g : ℕ → ℕ) (m first : ℕ)
    → ((met : List ℕ) → Walked f m first met → (k : ℕ) → k < length met → f (get_or met k 0) ≡ g (get_or met k 0)) → chain f m first ≡ chain g m first
chain_spare f g m first same = sym (stops_chain g m first rs (chain f m first) walked' stops')
  where
    rs : List ℕ
    rs = all_met f m first

    walked : Walked f m first rs
    walked = all_walked f m first

    walked' : Walked g m first rs
    walked' =
        record {
          starts = walked.starts;
          within = walked.within;
          links = λ k h. sym (same rs walked k (omega arith)) ∙ walked.links k h;
          distinct = walked.distinct;
        }

    led : (met : List ℕ) → ((k : ℕ) → k < length met → f (get_or met k 0) ≡ g (get_or met k 0)) → led_to g first met ≡ led_to f first met
    led [] e = refl
    led (x ∷ met) e =
        led_at g first (x ∷ met) (length met) refl ∙ sym (e (length met) (omega arith)) ∙ sym (led_at f first (x ∷ met) (length met) refl)

    stops' : Stops m rs (led_to g first rs) (chain f m first)
    stops' = rw (led rs (same rs walked)) (chain_stops f m first (chain f m first) refl)
