-- "Records off the chain may hold any bytes and are not judged": files of one length that agree in the header and in every
-- record on the chain are read alike (`spare_records`). Assumes nothing.
use mathlib.Core.Path.{◌≡◌, refl, sym, ap, ap₂, ◌∙◌}
use mathlib.Core.Bool.{Bool, ◌&&◌}
use mathlib.Core.List.{List, [], ◌∷◌, map}
use Prim.Native.Nat.{ℕ, suc, ◌+◌, ◌*◌, ◌≤◌, ◌<◌}
use native.Mathlib.Omega.{arith}
use lib.ListN.{length, get_or, drop, length-take, length-drop}
use lib.Seq.{ext_get_or, get_or-drop, get_or-take}
use Rattle.training_file.specs.declared.refusal.Refusal.TheVariants as refusal
use Rattle.training_file.specs.declared.parameters.Parameters.{Parameters}
use Rattle.training_file.specs.declared.item.Item.{Item}
use Rattle.training_file.specs.Layout.{feature_bytes, feature_count, first_record, le2, le4, le8, next_of, record_start, records_stored, signed_byte}
use Rattle.training_file.specs.Item.{item_of, both_labels}
use Rattle.training_file.specs.Record.{item_at, record_allowed, every}
use Rattle.training_file.specs.Header.{header_allowed, length_allowed, parameters_of}
use Rattle.chain.specs.Walk.{Walk, broken, ends}
use Rattle.chain.specs.Chain.{chain, chain_of}
use Rattle.chain.proofs.Laws.Chain.{chain_ends, chain_spare}
use Rattle.reading.specs.Reading.{Reading, accepted, read_chain, reading, unless}
use Rattle.reading.specs.Spare.{Alike, OnChain, SameChained}

-- ---- the fields

module _ (f g : List ℕ) where
  part : (start size from few : ℕ) → start ≤ from → from + few ≤ start + size → Alike f g start size → Alike f g from few
  part start size from few l u h at a b = h at (omega arith) (omega arith)

  le2_alike : (at : ℕ) → Alike f g at 2 → le2 f at ≡ le2 g at
  le2_alike at h = ap₂ (λ (low high : ℕ). low + 256 * high) (h at (omega arith) (omega arith)) (h (at + 1) (omega arith) (omega arith))

  le4_alike : (at : ℕ) → Alike f g at 4 → le4 f at ≡ le4 g at
  le4_alike at h =
      ap₂ (λ (low high : ℕ). low + 65536 * high)
      (le2_alike at (part at 4 at 2 (omega arith) (omega arith) h))
      (le2_alike (at + 2) (part at 4 (at + 2) 2 (omega arith) (omega arith) h))

  le8_alike : (at : ℕ) → Alike f g at 8 → le8 f at ≡ le8 g at
  le8_alike at h =
      ap₂ (λ (low high : ℕ). low + 4294967296 * high)
      (le4_alike at (part at 8 at 4 (omega arith) (omega arith) h))
      (le4_alike (at + 4) (part at 8 (at + 4) 4 (omega arith) (omega arith) h))

  features_alike : (r : ℕ) → length f ≡ length g → Alike f g (record_start r) 20 → feature_bytes f r ≡ feature_bytes g r
  features_alike r e h = ext_get_or 0 (feature_bytes f r) (feature_bytes g r) sizes same
    where
      sizes : length (feature_bytes f r) ≡ length (feature_bytes g r)
      sizes = simp (length-take, length-drop) (omega arith)

      same : (i : ℕ) → i < length (feature_bytes f r) → get_or (feature_bytes f r) i 0 ≡ get_or (feature_bytes g r) i 0
      same i b =
          let few : i < feature_count = omega (arith, length-take feature_count (drop (record_start r + 4) f)) in
          get_or-take feature_count (drop (record_start r + 4) f) i 0 few
          ∙ get_or-drop (record_start r + 4) f i 0
          ∙ h (record_start r + 4 + i) (omega arith) (omega arith)
          ∙ sym (get_or-drop (record_start r + 4) g i 0)
          ∙ sym (get_or-take feature_count (drop (record_start r + 4) g) i 0 few)

-- ---- what is read of them

-- a test and a map over the records of a list are decided by what they give at its places
every_cong : (p q : ℕ → Bool) (rs : List ℕ) → ((k : ℕ) → k < length rs → p (get_or rs k 0) ≡ q (get_or rs k 0)) → every p rs ≡ every q rs
unfolding every
every_cong p q [] h = refl
every_cong p q (r ∷ rs) h =
    ap₂ (λ (a b : Bool). a && b) (h 0 (omega arith)) (every_cong p q rs (λ k b. h (suc k) (omega arith)))

map_cong : (p q : ℕ → Item) (rs : List ℕ) → ((k : ℕ) → k < length rs → p (get_or rs k 0) ≡ q (get_or rs k 0)) → map p rs ≡ map q rs
map_cong p q [] h = refl
map_cong p q (r ∷ rs) h =
    ap₂ (λ (x : Item) (xs : List Item). x ∷ xs) (h 0 (omega arith)) (map_cong p q rs (λ k b. h (suc k) (omega arith)))

module _ (f g : List ℕ) (a : SameChained f g) where
  field2 : (at : ℕ) → at + 2 ≤ 32 → le2 f at ≡ le2 g at
  field2 at h = le2_alike f g at (part f g 0 32 at 2 (omega arith) h a.header)

  field4 : (at : ℕ) → at + 4 ≤ 32 → le4 f at ≡ le4 g at
  field4 at h = le4_alike f g at (part f g 0 32 at 4 (omega arith) h a.header)

  field8 : (at : ℕ) → at + 8 ≤ 32 → le8 f at ≡ le8 g at
  field8 at h = le8_alike f g at (part f g 0 32 at 8 (omega arith) h a.header)

  parameters_same : parameters_of f ≡ parameters_of g
  parameters_same =
      rw (
        a.header 4 (omega arith) (omega arith),
        a.header 5 (omega arith) (omega arith),
        field4 8 (omega arith),
        field4 12 (omega arith),
        field8 16 (omega arith),
        field4 24 (omega arith),
        field4 28 (omega arith),
      )

  length_same : length_allowed f ≡ length_allowed g
  unfolding length_allowed
  length_same = rw (a.lengths, field2 0 (omega arith))

  header_same : header_allowed f ≡ header_allowed g
  unfolding header_allowed
  header_same =
      rw (
        parameters_same,
        field2 0 (omega arith),
        field2 2 (omega arith),
        field2 6 (omega arith),
        a.header 5 (omega arith) (omega arith),
      )

  chain_same : chain_of f ≡ chain_of g
  chain_same =
      chain_spare (next_of f) (next_of g) (records_stored f) (first_record f)
      (λ met w k h. le2_alike f g _ (part f g _ 20 _ 2 (omega arith) (omega arith) (a.records _ (record { met = met; walked = w; place = k; held = h; is = refl }))))
      ∙ ap₂ (λ (m first : ℕ). chain (next_of g) m first) (field2 0 (omega arith)) (field2 2 (omega arith))

  -- of the records that the chain ends with
  module _ (rs : List ℕ) (e : chain_of f ≡ ends rs) where
    on_chain : (k : ℕ) → k < length rs → OnChain f (get_or rs k 0)
    on_chain k h =
        record { met = rs; walked = ((chain_ends (next_of f) (records_stored f) (first_record f) rs).0 e).walked; place = k; held = h; is = refl }

    record_same : (k : ℕ) → k < length rs → Alike f g (record_start (get_or rs k 0)) 20
    record_same k h = a.records (get_or rs k 0) (on_chain k h)

    allowed_same : (d k : ℕ) → k < length rs → record_allowed d f (get_or rs k 0) ≡ record_allowed d g (get_or rs k 0)
    unfolding record_allowed
    allowed_same d k h =
        let same = record_same k h in
        let start = record_start (get_or rs k 0) in
        rw (same (start + 2) (omega arith) (omega arith), same (start + 3) (omega arith) (omega arith), features_alike f g (get_or rs k 0) a.lengths same)

    item_same : (k : ℕ) → k < length rs → item_at f (get_or rs k 0) ≡ item_at g (get_or rs k 0)
    item_same k h =
        let same = record_same k h in
        ap₂ (λ (label : ℕ) (bytes : List ℕ). item_of label (map signed_byte bytes))
        (same (record_start (get_or rs k 0) + 2) (omega arith) (omega arith))
        (features_alike f g (get_or rs k 0) a.lengths same)

    all_same : every (record_allowed (parameters_of f).used f) rs ≡ every (record_allowed (parameters_of g).used g) rs
    all_same =
        every_cong (record_allowed (parameters_of f).used f) (record_allowed (parameters_of g).used g) rs
        (λ k h. allowed_same (parameters_of f).used k h ∙ ap (λ (p : Parameters). record_allowed p.used g (get_or rs k 0)) parameters_same)

    items_same : map (item_at f) rs ≡ map (item_at g) rs
    items_same = map_cong (item_at f) (item_at g) rs item_same

    rest_same : read_chain f (ends rs) ≡ read_chain g (ends rs)
    rest_same = λ k. unless refusal.Record (all_same k) (unless refusal.Labels (both_labels (items_same k)) (accepted (parameters_same k) rs (items_same k)))

  walked_same : (w : Walk) → chain_of f ≡ w → read_chain f w ≡ read_chain g w
  walked_same (broken number r) e = refl
  walked_same (ends rs) e = rest_same rs e

  pub spare_records : reading f ≡ reading g
  unfolding reading
  spare_records =
      ap₂ (λ (l h : Bool). unless refusal.FileLength l (unless refusal.Header h (read_chain f (chain_of f)))) length_same header_same
      ∙ ap (λ (rest : Reading). unless refusal.FileLength (length_allowed g) (unless refusal.Header (header_allowed g) rest))
      (walked_same (chain_of f) refl ∙ ap (read_chain g) chain_same)
