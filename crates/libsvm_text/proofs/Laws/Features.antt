-- Laws of the features of a line with one group more: those before, with one more stored. Assumes nothing.
use mathlib.Core.Path.{◌≡◌, refl, sym, ◌∙◌, ap}
use mathlib.Core.Bool.{true, ◌&&◌, cond}
use mathlib.Core.List.{List, [], ◌∷◌, ◌++◌}
use Prim.Native.Nat.{ℕ, suc, ◌-◌, ◌≤◌, ◌<◌}
use native.Mathlib.Decide.{ℕ_discrete}
use native.Mathlib.Omega.{arith}
use lib.Dec.{eqb, leb, ltb}
use lib.IntN.{pos}
use lib.ListN.{get_or, get_or-replicate, length, length-set, replicate, set}
use lib.Seq.{ext_get_or, get_or-set_other, get_or-set_same}
use borrow.Author.Tests.{eq-eqb, ltb-true, ne_eqb}
use Rattle.integers.proofs.Laws.Tabulate.{length-tabulate, tabulate_at}
use Rattle.integers.proofs.Laws.Truth.{&&_both, &&_left, &&_right}
use Rattle.training_file.specs.Layout.{feature_count}
use Rattle.libsvm_text.specs.Form.{Group, number, rising}
use Rattle.libsvm_text.specs.Items.{feature_in, line_features, value_of}
use Rattle.libsvm_text.specs.Lines.{last_of}

-- the last feature number is the highest
pub last_highest : (d before : ℕ) (groups : List Group) → rising d before groups ≡ true → before ≤ last_of before groups
unfolding rising last_of
last_highest d before [] h = omega arith
last_highest d before (first ∷ more) h =
    let n = number first.feature in
    let tests = &&_both (ltb before n && leb n d) (rising d n more) h in
    omega (arith, ltb-true before n (&&_left (ltb before n) (leb n d) tests.0), last_highest d n more tests.1)

-- ---- the value of a feature, with a group more

pub feature_other : (groups : List Group) (group : Group) (wanted : ℕ) → (number group.feature ≡ wanted → ⊥)
    → feature_in (groups ++ (group ∷ [])) wanted ≡ feature_in groups wanted
unfolding feature_in
feature_other [] group wanted other = ap (λ t. cond t (value_of group.value) (pos 0)) (ne_eqb (number group.feature) wanted other)
feature_other (first ∷ more) group wanted other = ap (cond (eqb (number first.feature) wanted) (value_of first.value)) (feature_other more group wanted other)

pub feature_last : (d before : ℕ) (groups : List Group) (group : Group) → rising d before groups ≡ true → last_of before groups < number group.feature
    → feature_in (groups ++ (group ∷ [])) (number group.feature) ≡ value_of group.value
unfolding feature_in rising last_of
feature_last d before [] group h l =
    ap (λ t. cond t (value_of group.value) (pos 0)) (eq-eqb (number group.feature) (number group.feature) refl)
feature_last d before (first ∷ more) group h l =
    let n = number first.feature in
    let rises = &&_right (ltb before n && leb n d) (rising d n more) h in
    let highest = last_highest d n more rises in
    ap (λ t. cond t (value_of first.value) (feature_in (more ++ (group ∷ [])) (number group.feature))) (ne_eqb n (number group.feature) (λ e. omega arith))
    ∙ feature_last d n more group rises l

-- ---- sixteen features

pub features_sixteen : (groups : List Group) → length (line_features groups) ≡ feature_count
features_sixteen groups = length-tabulate (λ i. feature_in groups (suc i)) feature_count

pub feature_at : (groups : List Group) (i : ℕ) → i < feature_count → get_or (line_features groups) i (pos 0) ≡ feature_in groups (suc i)
feature_at groups = tabulate_at (λ i. feature_in groups (suc i)) (pos 0) feature_count

pub features_none : replicate feature_count (pos 0) ≡ line_features []
unfolding feature_in
features_none =
    ext_get_or (pos 0) (replicate feature_count (pos 0)) (line_features []) (sym (features_sixteen []))
    (λ i h. get_or-replicate feature_count i (pos 0) (pos 0) h ∙ sym (feature_at [] i h))

module _ (d : ℕ) (groups : List Group) (group : Group) (rises : rising d 0 groups ≡ true) (above : last_of 0 groups < number group.feature)
    (most : number group.feature ≤ feature_count) where
  abbrev more : List Group
  more = groups ++ (group ∷ [])

  stored_at : (i : ℕ) → i < feature_count
      → get_or (set (line_features groups) (number group.feature - 1) (value_of group.value)) i (pos 0) ≡ feature_in more (suc i)
  stored_at i h = by (ℕ_discrete i (number group.feature - 1))
    where
      n : ℕ
      n = number group.feature

      by : Dec (i ≡ n - 1) → get_or (set (line_features groups) (n - 1) (value_of group.value)) i (pos 0) ≡ feature_in more (suc i)
      by (yes e) =
          let at : n ≡ suc i = omega arith in
          ap (λ k. get_or (set (line_features groups) (n - 1) (value_of group.value)) k (pos 0)) e
          ∙ get_or-set_same (line_features groups) (n - 1) (value_of group.value) (pos 0) (omega (arith, features_sixteen groups))
          ∙ sym (feature_last d 0 groups group rises above)
          ∙ ap (feature_in more) at
      by (no other) =
          get_or-set_other (line_features groups) (n - 1) i (value_of group.value) (pos 0) other
          ∙ feature_at groups i h
          ∙ sym (feature_other groups group (suc i) (λ e. omega arith))

  pub features_more : set (line_features groups) (number group.feature - 1) (value_of group.value) ≡ line_features more
  features_more =
      let stored = set (line_features groups) (number group.feature - 1) (value_of group.value) in
      let sixteen : length stored ≡ feature_count = simp length-set (features_sixteen groups) in
      ext_get_or (pos 0) stored (line_features more) (sixteen ∙ sym (features_sixteen more))
      (λ i h. stored_at i (omega (arith, sixteen)) ∙ sym (feature_at more i (omega (arith, sixteen))))
