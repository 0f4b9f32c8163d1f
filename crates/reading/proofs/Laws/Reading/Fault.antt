-- Document 02, request (k), over the records of any file: what 3 and 16 say of the record that they carry, and that they are answered, and
-- nothing later is, where the chain has a fault. Assumes nothing.
use mathlib.Core.Path.{◌≡◌, refl, ap, subst}
use mathlib.Core.Logic.{◌≢◌, ◌⊎◌, ⊎_elim, ⊎_map}
use mathlib.Core.Bool.{Bool, true, false}
use mathlib.Core.List.{List, map}
use Prim.Native.Nat.{ℕ, ◌≤◌}
use native.Mathlib.Omega.{arith}
use Rattle.integers.specs.Member.{member}
use Rattle.training_file.specs.declared.refusal.Refusal.{Refusal}
use Rattle.training_file.specs.declared.refusal.Refusal.TheVariants as refusal
use Rattle.training_file.specs.Refusal.{OneOf, number_of, reading_refuses, record_of, refusal_at}
use Rattle.training_file.specs.Layout.{first_record, next_of, records_stored}
use Rattle.training_file.specs.Record.{item_at, record_allowed, every}
use Rattle.training_file.specs.Header.{header_allowed, length_allowed, parameters_of}
use Rattle.training_file.specs.Item.{both_labels}
use Rattle.training_file.proofs.Laws.Refusal.{at_number, at_record, one_of_alone}
use Rattle.training_file.proofs.Laws.Header.{allowed_whole, header_first}
use Rattle.chain.specs.Walk.{Walk, broken, ends}
use Rattle.chain.specs.Chain.{ChainIn, FaultIn, chain_of}
use Rattle.chain.proofs.Laws.Chain.{chain_broken, chain_ends, chain_none}
use Rattle.reading.specs.Reading.{Reading, accepted, read_chain, reading, refused, unless}
use Rattle.reading.proofs.Laws.Reading.{reads_broken, reads_chain}

-- ---- what a refusal says of the file

module _ (file : List ℕ) where
  abbrev Judged : Reading → Type 0
  Judged (refused why) = OneOf reading_refuses why × (1 ≤ record_of why → FaultIn file (number_of why) (record_of why))
  Judged (accepted p rs items) = Unit {0}

  unless_judged : (why : Refusal) (test : Bool) (rest : Reading) → member (number_of why) reading_refuses ≡ true → number_of why ≢ 3 → number_of why ≢ 16
      → (test ≡ true → Judged rest) → Judged (unless why test rest)
  unless_judged why true rest e not-3 not_16 h = h refl
  unless_judged why false rest e not-3 not_16 h =
      let one = one_of_alone reading_refuses why e not-3 not_16 in
      (one, λ b. absurd (omega (arith, one.carried.otherwise not-3 not_16)))

  chain_judged : length_allowed file ≡ true → header_allowed file ≡ true → (w : Walk) → chain_of file ≡ w → Judged (read_chain file w)
  chain_judged l h (broken number r) e =
      let f = (chain_broken (next_of file) (records_stored file) (first_record file) number r (header_first file h)).0 e in
      let stored = f.walked.within f.place (omega (arith, f.last)) in
      let most = (allowed_whole file l).most in
      let is : (number ≡ 3) ⊎ (number ≡ 16) = ⊎_map (λ p. p.0) (λ p. p.0) f.fault in
      let at = at_record number r in (
        record {
          listed = rw (at_number number r is) (⊎_elim (λ (q : number ≡ 3). ap (λ n. member n reading_refuses) q) (λ (q : number ≡ 16). ap (λ n. member n reading_refuses) q) is);
          carried =
              record {
                at_fault = λ q. (omega (arith, stored.0, f.is, at), omega (arith, stored.1, f.is, at));
                otherwise = rw (at_number number r is) (λ not-3 not_16. absurd (⊎_elim not-3 not_16 is));
              };
        },
        λ b. rw (at_number number r is, at) f,
      )
  chain_judged l h (ends rs) e =
      let items = map (item_at file) rs in
      let read = accepted (parameters_of file) rs items in
      unless_judged refusal.Record (every (record_allowed (parameters_of file).used file) rs) (unless refusal.Labels (both_labels items) read) refl (λ q. omega arith) (λ q. omega arith)
      (λ t. unless_judged refusal.Labels (both_labels items) read refl (λ q. omega arith) (λ q. omega arith) (λ u. tt))

  reading_judged : Judged (reading file)
  unfolding reading
  reading_judged =
      let read = read_chain file (chain_of file) in
      unless_judged refusal.FileLength (length_allowed file) (unless refusal.Header (header_allowed file) read) refl (λ q. omega arith) (λ q. omega arith)
      (λ l. unless_judged refusal.Header (header_allowed file) read refl (λ q. omega arith) (λ q. omega arith) (λ h. chain_judged l h (chain_of file) refl))

  -- reading refuses with the numbers listed for it; 3 and 16 carry a record, "other refusals carry none"
  pub refused_one_of : (why : Refusal) → reading file ≡ refused why → OneOf reading_refuses why
  refused_one_of why e = (subst Judged e reading_judged).0

  -- the record carried is on the chain, its next field is at fault, and it is the first on the walk
  pub refused_at : (why : Refusal) → reading file ≡ refused why → 1 ≤ record_of why → FaultIn file (number_of why) (record_of why)
  refused_at why e = (subst Judged e reading_judged).1

  -- ---- a file that is refused with neither 1 nor 2

  module _ (l : length_allowed file ≡ true) (h : header_allowed file ≡ true) where
    -- a fault on the chain is answered, whatever is wrong in the records besides
    pub fault_refused : (number r : ℕ) → FaultIn file number r → reading file ≡ refused (refusal_at number r)
    fault_refused number r f =
        reads_broken file l h number r ((chain_broken (next_of file) (records_stored file) (first_record file) number r (header_first file h)).1 f)

    -- Document 01's own 3 is "a next number over m, or a chain that meets a record twice". Where records are the chain, they are read as
    -- they are there; where none are, which is that 3, a record is at fault, and it is answered with 3 or 16.
    pub chain_read : (rs : List ℕ) → ChainIn file rs → reading file ≡ read_chain file (ends rs)
    chain_read rs c = reads_chain file l h rs ((chain_ends (next_of file) (records_stored file) (first_record file) rs).1 c)

    pub no_chain_refused : ((rs : List ℕ) → ¬ ChainIn file rs) → (number : ℕ) × ((r : ℕ) × (FaultIn file number r × (reading file ≡ refused (refusal_at number r))))
    no_chain_refused none_is =
        let breaks = (chain_none (next_of file) (records_stored file) (first_record file)).1 none_is in
        let f = (chain_broken (next_of file) (records_stored file) (first_record file) breaks.0 breaks.1.0 (header_first file h)).0 breaks.1.1 in
        (breaks.0, (breaks.1.0, (f, fault_refused breaks.0 breaks.1.0 f)))
