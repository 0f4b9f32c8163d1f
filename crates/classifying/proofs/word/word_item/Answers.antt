-- `classifying::word::word_item` meets its contract: the word's features come first, and behind them 0. Assumes nothing.
use mathlib.Core.Path.{◌≡◌, refl, sym, ◌∙◌, ap, subst}
use mathlib.Core.Bool.{Bool, true, false, cond}
use mathlib.Core.List.{List, ◌++◌}
use Prim.Native.Nat.{ℕ, ◌-◌, ◌<◌}
use native.Mathlib.Decide.{dec_lt}
use native.Mathlib.Omega.{arith}
use lib.IntN.{ℤ, pos}
use lib.ListN.{length, get_or, replicate, drop, length-replicate, get_or-append, get_or-eq_default, get_or-replicate}
use lib.Seq.{get_or-append_right}
use Rattle.std.specs.Prelude.{None, Some, is_some, IfSome}
use Rattle.std.proofs.lemmas.Bool.{cond_both}
use Rattle.std.proofs.lemmas.List.{drop-replicate}
use Rattle.training_file.specs.Item.{item_allowed, item_of}
use Rattle.classifying.specs.Classify.{SameFeatures}
use Rattle.classifying.proofs.Laws.Classify.{word_allowed_lem}
use Rattle.classifying.proofs.word.word_item.Goals as goal

all_zero : (n i : ℕ) → get_or (replicate n (pos 0)) i (pos 0) ≡ pos 0
all_zero n i = by (dec_lt i n)
  where
    by : Dec (i < n) → get_or (replicate n (pos 0)) i (pos 0) ≡ pos 0
    by (yes l) = get_or-replicate n i (pos 0) (pos 0) l
    by (no l) = get_or-eq_default (replicate n (pos 0)) (pos 0) {n = i} (omega (arith, length-replicate {A = ℤ} n (pos 0)))

-- sixteen zeros whose first places the word's features took
same : (word : List ℤ) {front : List ℤ} → front ≡ word → SameFeatures (front ++ drop (length word) (replicate 16 (pos 0))) word
same word e q = ap (λ l. get_or (l ++ drop (length word) (replicate 16 (pos 0))) q (pos 0)) e ∙ by (dec_lt q (length word))
  where
    by : Dec (q < length word) → get_or (word ++ drop (length word) (replicate 16 (pos 0))) q (pos 0) ≡ get_or word q (pos 0)
    by (yes l) = get_or-append word (drop (length word) (replicate 16 (pos 0))) (pos 0) q l
    by (no l) =
        get_or-append_right word (drop (length word) (replicate 16 (pos 0))) q (pos 0) (omega arith)
        ∙ ap (λ l. get_or l (q - length word) (pos 0)) (drop-replicate (length word) 16 (pos 0))
        ∙ all_zero (16 - length word) (q - length word)
        ∙ sym (get_or-eq_default word (pos 0) {n = q} (omega arith))

-- an item is answered where the test holds
some_if : {A : Type 0} (b : Bool) (x : A) → is_some (cond b (Some x) None) ≡ b
some_if true x = refl
some_if false x = refl

pub returns-clause-allowed : goal.returns-clause-allowed
returns-clause-allowed c =
    let word = c.args.word.now in
    ap is_some c.new.ensures ∙ some_if (item_allowed (length word) 2 _) _ ∙ word_allowed_lem _ word (same word c.copy_from_slice.ensures.after) 2 refl c.requires

pub returns-clause-features : goal.returns-clause-features
returns-clause-features c =
    let word = c.args.word.now in
    subst (λ answer. IfSome answer (λ item. SameFeatures item.features word)) (sym c.new.ensures)
    (cond_both (item_allowed (length word) 2 _) (Some (item_of 2 _)) None (λ answer. IfSome answer (λ item. SameFeatures item.features word)) (λ e. same word c.copy_from_slice.ensures.after) (λ e. tt))
