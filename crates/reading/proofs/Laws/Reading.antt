-- Laws of reading: the answer by the stage that gives it. Assumes nothing.
pub mod Accepted
pub mod Fault
pub mod Spare
use mathlib.Core.Path.{◌≡◌, refl, sym, ap, ap₂, ◌∙◌}
use mathlib.Core.Bool.{Bool, true, false}
use mathlib.Core.List.{List, map}
use Prim.Native.Nat.{ℕ}
use native.Mathlib.Omega.{arith}
use Rattle.training_file.specs.declared.parameters.Parameters.{Parameters}
use Rattle.training_file.specs.declared.item.Item.{Item}
use Rattle.training_file.specs.declared.refusal.Refusal.TheVariants as refusal
use Rattle.training_file.specs.Refusal.{refusal_at}
use Rattle.training_file.specs.Item.{both_labels}
use Rattle.training_file.specs.Record.{item_at, record_allowed, every}
use Rattle.training_file.specs.Header.{header_allowed, length_allowed, parameters_of}
use Rattle.chain.specs.Walk.{Walk, broken, ends}
use Rattle.chain.specs.Chain.{chain_of}
use Rattle.reading.specs.Reading.{accepted, read_chain, reading, refused, unless}

-- ---- the reading by stages

module _ (file : List ℕ) where
  pub reads_1 : length_allowed file ≡ false → reading file ≡ refused refusal.FileLength
  unfolding reading
  reads_1 l = rw l

  module _ (l : length_allowed file ≡ true) where
    pub reads_2 : header_allowed file ≡ false → reading file ≡ refused refusal.Header
    unfolding reading
    reads_2 h = rw (l, h)

    module _ (h : header_allowed file ≡ true) where
      pub reads_broken : (number r : ℕ) → chain_of file ≡ broken number r → reading file ≡ refused (refusal_at number r)
      unfolding reading
      reads_broken number r w = rw (l, h) (ap (read_chain file) w)

      module _ (rs : List ℕ) (w : chain_of file ≡ ends rs) where
        pub reads_chain : reading file ≡ read_chain file (ends rs)
        unfolding reading
        reads_chain = rw (l, h) (ap (read_chain file) w)

        pub reads_4 : every (record_allowed (parameters_of file).used file) rs ≡ false → reading file ≡ refused refusal.Record
        reads_4 e = reads_chain ∙ (rw e)

        module _ (e : every (record_allowed (parameters_of file).used file) rs ≡ true) where
          pub reads_5 : both_labels (map (item_at file) rs) ≡ false → reading file ≡ refused refusal.Labels
          reads_5 b = reads_chain ∙ (rw (e, b))

          pub reads_all : both_labels (map (item_at file) rs) ≡ true
              → reading file ≡ accepted (parameters_of file) rs (map (item_at file) rs)
          reads_all b = reads_chain ∙ (rw (e, b))

-- ---- what an accepted file has

-- everything that the refusals ask for, with the parameters, the order and the items that follow from the bytes
pub record AcceptedFile (file : List ℕ) (p : Parameters) (rs : List ℕ) (items : List Item) : Type 0 where
  pub length_is : length_allowed file ≡ true
  pub header_is : header_allowed file ≡ true
  pub chain_is : chain_of file ≡ ends rs
  pub records_are : every (record_allowed p.used file) rs ≡ true
  pub labels_are : both_labels items ≡ true
  pub parameters_are : p ≡ parameters_of file
  pub items_are : items ≡ map (item_at file) rs

module _ (file : List ℕ) (p : Parameters) (rs : List ℕ) (items : List Item) where
  past_labels : (qs : List ℕ) (e b : Bool)
      → length_allowed file ≡ true → header_allowed file ≡ true → chain_of file ≡ ends qs
      → every (record_allowed (parameters_of file).used file) qs ≡ e → both_labels (map (item_at file) qs) ≡ b
      → unless refusal.Record e (unless refusal.Labels b (accepted (parameters_of file) qs (map (item_at file) qs))) ≡ accepted p rs items
      → AcceptedFile file p rs items
  past_labels qs false b l h w e t q = let z : ◌≡◌ {A = ℕ} 0 1 = cc in absurd (omega arith)
  past_labels qs true false l h w e t q = let z : ◌≡◌ {A = ℕ} 0 1 = cc in absurd (omega arith)
  past_labels qs true true l h w e t q =
      let ep : parameters_of file ≡ p = cc in
      let er : qs ≡ rs = cc in
      let ei : map (item_at file) qs ≡ items = cc in
      record {
        length_is = l;
        header_is = h;
        chain_is = w ∙ ap ends er;
        records_are = ap₂ (λ (x : Parameters) (y : List ℕ). every (record_allowed x.used file) y) (sym ep) (sym er) ∙ e;
        labels_are = ap both_labels (sym ei) ∙ t;
        parameters_are = sym ep;
        items_are = sym ei ∙ ap (map (item_at file)) er;
      }

  past_chain : (c : Walk) → length_allowed file ≡ true → header_allowed file ≡ true → chain_of file ≡ c
      → read_chain file c ≡ accepted p rs items → AcceptedFile file p rs items
  past_chain (broken number r) l h w q = let z : ◌≡◌ {A = ℕ} 0 1 = cc in absurd (omega arith)
  past_chain (ends qs) l h w q = past_labels qs _ _ l h w refl refl q

  past_header : (a b : Bool) → length_allowed file ≡ a → header_allowed file ≡ b
      → unless refusal.FileLength a (unless refusal.Header b (read_chain file (chain_of file))) ≡ accepted p rs items → AcceptedFile file p rs items
  past_header false b l h q = let z : ◌≡◌ {A = ℕ} 0 1 = cc in absurd (omega arith)
  past_header true false l h q = let z : ◌≡◌ {A = ℕ} 0 1 = cc in absurd (omega arith)
  past_header true true l h q = past_chain (chain_of file) l h refl q

  pub accepted_is : reading file ≡ accepted p rs items → AcceptedFile file p rs items
  unfolding reading
  accepted_is q = past_header (length_allowed file) (header_allowed file) refl refl q
