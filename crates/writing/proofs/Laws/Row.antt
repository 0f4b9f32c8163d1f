-- Laws of items in memory: the judging of the rows that are left, and the item of each. Assumes nothing.
use mathlib.Core.Path.{◌≡◌, refl, sym, ap, ◌∙◌}
use mathlib.Core.Bool.{Bool, true, false, cond}
use mathlib.Core.List.{List, [], ◌∷◌}
use Prim.Native.Nat.{ℕ, zero, suc, ◌+◌, ◌≤◌, ◌<◌}
use native.Mathlib.Nat.{add_assoc, add-zero, le_of_suc-le-suc}
use native.Mathlib.Numerals.{add-one}
use native.Mathlib.Omega.{arith}
use Rattle.std.proofs.Common.{Some, None, Result, Ok, Err}
use lib.IntN.{ℤ, pos}
use lib.ListN.{length, get_or, drop, take}
use lib.Seq.{drop-cons, ext_get_or, get_or-take, length-take-le}
use Rattle.integers.proofs.Laws.Tabulate.{length-tabulate, tabulate_at}
use Rattle.training_file.specs.declared.item.Item.{Item}
use Rattle.training_file.specs.declared.item.Label.TheVariants.{LookedUp}
use Rattle.training_file.specs.declared.refusal.Refusal.{Refusal}
use Rattle.training_file.specs.declared.refusal.Refusal.TheVariants as refusal
use Rattle.training_file.specs.Layout.{feature_count}
use Rattle.training_file.specs.Item.{item_in, label_of_byte, labelled, same}
use Rattle.training_file.specs.Record.{every}
use Rattle.training_file.specs.Answers.{ok_if}
use Rattle.writing.specs.Row.{row_allowed, row_features, row_item, row_items, row_label}

-- ---- the judging of rows, where n looked up were counted before them

abbrev pub judge_from : (d n : ℕ) → List (List ℤ) → Result ℕ Refusal
judge_from d n rows = ok_if (every (row_allowed d) rows) (n + labelled LookedUp (row_items rows)) refusal.Record

module _ (d : ℕ) where
  pub judge_none : (n : ℕ) → judge_from d n [] ≡ Ok n
  unfolding every labelled
  judge_none n = ap Ok (add-zero n)

  -- of the row at place k
  module _ (n k : ℕ) (rows : List (List ℤ)) (h : k < length rows) where
    pub judge_refused : row_allowed d (get_or rows k []) ≡ false → judge_from d n (drop k rows) ≡ Err refusal.Record
    unfolding every
    judge_refused refused = rw (drop-cons rows k [] h, refused)

    pub judge_allowed : (s : ℕ) → row_allowed d (get_or rows k []) ≡ true → s ≡ same LookedUp (label_of_byte (row_label (get_or rows k [])))
        → judge_from d n (drop k rows) ≡ judge_from d (n + s) (drop (k + 1) rows)
    unfolding every labelled
    judge_allowed s allowed e =
        rw (add-one k, drop-cons rows k [] h, allowed, e)
        (ap (λ m. ok_if (every (row_allowed d) (drop (suc k) rows)) m refusal.Record) (sym (add_assoc _ _ _)))

-- ---- the judging of one row

pub item_some : (allowed : Bool) (item : Item) (judged : Item) → cond allowed (Some item) None ≡ Some judged → (allowed ≡ true) × (item ≡ judged)
item_some true item judged e = (refl, cc)
item_some false item judged e = let z : ⊥ = cc in absurd z

pub item_none : (allowed : Bool) (item : Item) → cond allowed (Some item) None ≡ None → allowed ≡ false
item_none true item e = let z : ⊥ = cc in absurd z
item_none false item e = refl

-- ---- the items of rows

pub features_taken : (row : List ℤ) → feature_count ≤ length row → take feature_count row ≡ row_features row
features_taken row long =
    ext_get_or (pos 0) _ _ (length-take-le feature_count row long ∙ sym (length-tabulate at feature_count))
    (λ k h.
    let l : k < feature_count = omega (arith, length-take-le feature_count row long) in
    get_or-take feature_count row k (pos 0) l ∙ sym (tabulate_at at (pos 0) feature_count k l))
  where
    at : ℕ → ℤ
    at i = get_or row i (pos 0)

pub row_at : (rows : List (List ℤ)) (k : ℕ) → k < length rows → item_in (row_items rows) k ≡ row_item (get_or rows k [])
row_at [] k h = absurd (omega arith)
row_at (row ∷ rows) zero h = refl
row_at (row ∷ rows) (suc k) h = row_at rows k (le_of_suc-le-suc h)

pub row_sixteen : (rows : List (List ℤ)) (k : ℕ) → k < length rows → length (item_in (row_items rows) k).features ≡ feature_count
row_sixteen rows k h = ap (λ item. length item.features) (row_at rows k h) ∙ length-tabulate (λ i. get_or (get_or rows k []) i (pos 0)) feature_count
