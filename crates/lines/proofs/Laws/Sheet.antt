-- Why the printed sheet adds up: its lines and their fields read back as what they show. Assumes nothing.
use mathlib.Core.Path.{◌≡◌, refl, sym, ◌∙◌, ap}
use mathlib.Core.Bool.{true, cond}
use mathlib.Core.List.{List, [], ◌∷◌, ◌++◌, append_assoc}
use Prim.Native.Nat.{ℕ, zero, suc, ◌+◌, ◌^◌, ◌≤◌, ◌<◌}
use native.Mathlib.Nat.{le_refl}
use native.Mathlib.Omega.{arith}
use lib.Dec.{eqb, ltb}
use lib.ListN.{get_or}
use Rattle.training_file.specs.declared.item.Label.{Label}
use Rattle.training_file.specs.declared.item.Label.TheVariants.{LookedUp, PassedOver}
use Rattle.training_file.specs.declared.refusal.Refusal.{Refusal}
use Rattle.training_file.specs.Refusal.{number_of, record_of}
use Rattle.training_file.specs.Parameters.{records_most}
use Rattle.smo.specs.declared.ending.Ending.{Ending}
use Rattle.smo.specs.declared.ending.Ending.TheVariants.{Converged, Stuck, Spent}
use Rattle.smo.specs.declared.run.Trained.{Trained}
use Rattle.text.specs.Decimal.{decimal, value}
use Rattle.text.proofs.Laws.Decimal.Meaning.{decimal_value}
use Rattle.text.specs.Parts.{free, parts}
use Rattle.text.proofs.Laws.Parts.{decimal_free, free-append, parts_first, parts_one, signed_free}
use Rattle.totals.specs.declared.sums.Shown.{Shown}
use Rattle.totals.specs.declared.sums.Totals.{Totals}
use Rattle.totals.specs.Totals.{count_above_zero, one_above_zero, share, sum_over, totals}
use Rattle.totals.proofs.Laws.Totals.{count_most, sum_most}
use Rattle.lines.specs.Lines.{ending_text, field, item_line, items_with_total, joined, label_sign, record_field, refusal_line, refused_text, result_line, signed_field, total_line, total_text}
use Rattle.lines.specs.Sheet.{AddsUp, count_read, field_in, number_in, sum_read}

-- ---- a text that is one line: its bytes before the last are no byte 10, and the last is
record EndedLine (line body : List ℕ) : Type 0 where
  whole : line ≡ body ++ (10 ∷ [])
  unbroken : free 10 body ≡ true

ended_one : (xs : List ℕ) → free 10 xs ≡ true → EndedLine (xs ++ (10 ∷ [])) xs
ended_one xs h = record { whole = refl; unbroken = h }

ended_after : (xs : List ℕ) {line body : List ℕ} → free 10 xs ≡ true → EndedLine line body → EndedLine (xs ++ line) (xs ++ body)
ended_after xs {line} {body} h e = record { whole = ap (λ l. xs ++ l) e.whole ∙ sym (append_assoc xs body (10 ∷ [])); unbroken = free-append 10 xs body h e.unbroken }

module _ {line body : List ℕ} (e : EndedLine line body) where
  parts_ended : (rest : List ℕ) → parts 10 (line ++ rest) ≡ body ∷ parts 10 rest
  parts_ended rest = ap (λ l. parts 10 (l ++ rest)) e.whole ∙ ap (parts 10) (append_assoc body (10 ∷ []) rest) ∙ parts_first 10 body rest e.unbroken

  parts_last : parts 10 line ≡ body ∷ [] ∷ []
  unfolding parts
  parts_last = ap (parts 10) e.whole ∙ parts_first 10 body [] e.unbroken

-- the texts of the places below n, each by itself
unfoldable separate : ℕ → (ℕ → List ℕ) → List (List ℕ)
separate zero text = []
separate (suc n) text = separate n text ++ (text n ∷ [])

parts_joined : (n : ℕ) (line body : ℕ → List ℕ) → ((i : ℕ) → EndedLine (line i) (body i)) → (rest : List ℕ) → parts 10 (joined n line ++ rest) ≡ separate n body ++ parts 10 rest
unfolding joined separate
parts_joined zero line body e rest = refl
parts_joined (suc n) line body e rest =
    ap (parts 10) (append_assoc (joined n line) (line n) rest) ∙ parts_joined n line body e (line n ++ rest) ∙ ap (λ p. separate n body ++ p) (parts_ended (e n) rest)
    ∙ sym (append_assoc (separate n body) (body n ∷ []) (parts 10 rest))

-- ---- each kind of line is one, of a body and byte 10
field_free : (number : ℕ) → free 10 (field number) ≡ true
unfolding free
field_free number = decimal_free 10 (omega arith) number

ending_free : (ending : Ending) → free 10 (ending_text ending) ≡ true
unfolding free
ending_free Converged = refl
ending_free Stuck = refl
ending_free Spent = refl

abbrev result_body : Trained → List ℕ
result_body trained = ending_text trained.ending ++ (field trained.steps ++ (signed_field trained.lower ++ signed_field trained.upper))

result_ended : (trained : Trained) → EndedLine (result_line trained) (result_body trained)
unfolding free result_line
result_ended trained =
    ended_after (ending_text trained.ending) (ending_free trained.ending)
    (ended_after (field trained.steps) (field_free trained.steps)
    (ended_after (signed_field trained.lower) (signed_free 10 (omega arith) trained.lower) (ended_one (signed_field trained.upper) (signed_free 10 (omega arith) trained.upper))))

record_free : (r : ℕ) → free 10 (record_field r) ≡ true
unfolding free
record_free zero = refl
record_free (suc r) = field_free (suc r)

refusal_ended : (why : Refusal) → EndedLine (refusal_line why) (refused_text ++ (field (number_of why) ++ record_field (record_of why)))
unfolding free
refusal_ended why =
    ended_after refused_text refl
    (ended_after (field (number_of why)) (field_free (number_of why)) (ended_one (record_field (record_of why)) (record_free (record_of why))))

abbrev item_body : Shown → List ℕ
item_body shown = decimal shown.number ++ (32 ∷ label_sign shown.label ∷ 32 ∷ decimal shown.multiplier)

abbrev total_body : Totals → List ℕ
total_body totals = total_text ++ (field totals.count ++ (field totals.plus ++ field totals.minus))

sign_free : (label : Label) → free 10 (32 ∷ label_sign label ∷ 32 ∷ []) ≡ true
unfolding free
sign_free LookedUp = refl
sign_free PassedOver = refl

item_ended : (shown : Shown) → EndedLine (item_line shown) (item_body shown)
unfolding item_line
item_ended shown =
    ended_after (decimal shown.number) (decimal_free 10 (omega arith) shown.number)
    (ended_after (32 ∷ label_sign shown.label ∷ 32 ∷ []) (sign_free shown.label) (ended_one (decimal shown.multiplier) (decimal_free 10 (omega arith) shown.multiplier)))

total_ended : (totals : Totals) → EndedLine (total_line totals) (total_body totals)
unfolding free total_line
total_ended totals =
    ended_after total_text refl
    (ended_after (field totals.count) (field_free totals.count)
    (ended_after (field totals.plus) (field_free totals.plus) (ended_one (field totals.minus) (field_free totals.minus))))

-- ---- the fields of a line
number_free : (number : ℕ) → free 32 (decimal number) ≡ true
number_free number = decimal_free 32 (omega arith) number

sign_alone : (label : Label) → free 32 (label_sign label ∷ []) ≡ true
unfolding free
sign_alone LookedUp = refl
sign_alone PassedOver = refl

item_fields : (shown : Shown) → parts 32 (item_body shown) ≡ decimal shown.number ∷ (label_sign shown.label ∷ []) ∷ decimal shown.multiplier ∷ []
item_fields shown =
    parts_first 32 (decimal shown.number) (label_sign shown.label ∷ 32 ∷ decimal shown.multiplier) (number_free shown.number)
    ∙ ap (λ p. decimal shown.number ∷ p) (parts_first 32 (label_sign shown.label ∷ []) (decimal shown.multiplier) (sign_alone shown.label))
    ∙ ap (λ p. decimal shown.number ∷ (label_sign shown.label ∷ []) ∷ p) (parts_one 32 (decimal shown.multiplier) (number_free shown.multiplier))

abbrev total_fields : Totals → List (List ℕ)
total_fields totals = total_text ∷ decimal totals.count ∷ decimal totals.plus ∷ decimal totals.minus ∷ []

total_fields_lem : (totals : Totals) → parts 32 (total_body totals) ≡ total_fields totals
unfolding free
total_fields_lem totals =
    parts_first 32 total_text (decimal totals.count ++ (field totals.plus ++ field totals.minus)) refl
    ∙ ap (λ p. total_text ∷ p) (parts_first 32 (decimal totals.count) (decimal totals.plus ++ field totals.minus) (number_free totals.count))
    ∙ ap (λ p. total_text ∷ decimal totals.count ∷ p) (parts_first 32 (decimal totals.plus) (decimal totals.minus) (number_free totals.plus))
    ∙ ap (λ p. total_text ∷ decimal totals.count ∷ decimal totals.plus ∷ p) (parts_one 32 (decimal totals.minus) (number_free totals.minus))

-- ---- what is read off the total is what it is of, and off the item lines what they show
total_read : (totals : Totals) (k : ℕ) {number : ℕ} → number < 2 ^ 64 → get_or (total_fields totals) k [] ≡ decimal number → number_in (total_body totals) k ≡ number
total_read totals k {number} small is = ap (λ p. value 0 (get_or p k [])) (total_fields_lem totals) ∙ ap (value 0) is ∙ decimal_value number small

multiplier_read : (shown : Shown) → shown.multiplier < 2 ^ 64 → number_in (item_body shown) 2 ≡ shown.multiplier
multiplier_read shown small = ap (λ p. value 0 (get_or p 2 [])) (item_fields shown) ∙ decimal_value shown.multiplier small

sign_read : (shown : Shown) → get_or (field_in (item_body shown) 1) 0 0 ≡ label_sign shown.label
sign_read shown = ap (λ p. get_or (get_or p 1 []) 0 0) (item_fields shown)

-- a line shows the sign of its own label alone
share_by_sign : (label shown : Label) (multiplier : ℕ) → cond (eqb (label_sign shown) (label_sign label)) multiplier 0 ≡ share label shown multiplier
share_by_sign LookedUp LookedUp multiplier = refl
share_by_sign LookedUp PassedOver multiplier = refl
share_by_sign PassedOver LookedUp multiplier = refl
share_by_sign PassedOver PassedOver multiplier = refl

-- one line more, at the end
count_more : (lines : List (List ℕ)) (line : List ℕ) → count_read (lines ++ (line ∷ [])) ≡ count_read lines + cond (ltb 0 (number_in line 2)) 1 0
unfolding count_read
count_more [] line = omega arith
count_more (l ∷ lines) line = omega (arith, count_more lines line)

sum_more : (sign : ℕ) (lines : List (List ℕ)) (line : List ℕ) → sum_read sign (lines ++ (line ∷ [])) ≡ sum_read sign lines + cond (eqb (get_or (field_in line 1) 0 0) sign) (number_in line 2) 0
unfolding sum_read
sum_more sign [] line = omega arith
sum_more sign (l ∷ lines) line = omega (arith, sum_more sign lines line)

module _ (shown : ℕ → Shown) where
  count_read_lem : (n : ℕ) → ((i : ℕ) → i < n → (shown i).multiplier < 2 ^ 64) → count_read (separate n (λ i. item_body (shown i))) ≡ count_above_zero n shown
  unfolding separate count_read count_above_zero
  count_read_lem zero small = refl
  count_read_lem (suc n) small =
      count_more (separate n (λ i. item_body (shown i))) (item_body (shown n))
      ∙ (λ k. count_read_lem n (λ i l. small i (omega arith)) k + one_above_zero (multiplier_read (shown n) (small n (le_refl (suc n))) k))

  sum_read_lem : (label : Label) (n : ℕ) → ((i : ℕ) → i < n → (shown i).multiplier < 2 ^ 64) → sum_read (label_sign label) (separate n (λ i. item_body (shown i))) ≡ sum_over label n shown
  unfolding separate sum_read sum_over
  sum_read_lem label zero small = refl
  sum_read_lem label (suc n) small =
      let multiplier = multiplier_read (shown n) (small n (le_refl (suc n))) in
      let one = (λ k. cond (eqb (sign_read (shown n) k) (label_sign label)) (multiplier k) 0) ∙ share_by_sign label (shown n).label (shown n).multiplier in
      sum_more (label_sign label) (separate n (λ i. item_body (shown i))) (item_body (shown n)) ∙ (λ k. sum_read_lem label n (λ i l. small i (omega arith)) k + one k)

-- ---- the sheet: a refusal is one line, and everything else adds up
pub refusal_one_line : (why : Refusal) → parts 10 (refusal_line why) ≡ (refused_text ++ (field (number_of why) ++ record_field (record_of why))) ∷ [] ∷ []
refusal_one_line why = parts_last (refusal_ended why)

module _ (trained : Trained) (n : ℕ) (shown : ℕ → Shown) (few : n ≤ records_most) (small : (i : ℕ) → i < n → (shown i).multiplier < 2 ^ 32) where
  small_64 : (i : ℕ) → i < n → (shown i).multiplier < 2 ^ 64
  small_64 i l = omega (arith, small i l)

  -- the count and the sums are numbers of 64 bits, and so read back
  sum_small : (label : Label) → sum_over label n shown < 2 ^ 64
  sum_small label = omega (arith, sum_most label n shown {most = 2 ^ 32} (λ i l. omega (arith, small i l)), few)

  count_total : number_in (total_body (totals n shown)) 1 ≡ count_above_zero n shown
  count_total = total_read (totals n shown) 1 (omega (arith, count_most n shown, few)) refl

  plus_total : number_in (total_body (totals n shown)) 2 ≡ sum_over LookedUp n shown
  plus_total = total_read (totals n shown) 2 (sum_small LookedUp) refl

  minus_total : number_in (total_body (totals n shown)) 3 ≡ sum_over PassedOver n shown
  minus_total = total_read (totals n shown) 3 (sum_small PassedOver) refl

  pub adds_up : sum_over LookedUp n shown ≡ sum_over PassedOver n shown → AddsUp (result_line trained ++ items_with_total n shown)
  adds_up equal =
      record {
        first = result_body trained;
        items = separate n (λ i. item_body (shown i));
        total = total_body (totals n shown);
        lines =
            parts_ended (result_ended trained) (items_with_total n shown)
            ∙ ap (λ p. result_body trained ∷ p) (parts_joined n (λ i. item_line (shown i)) (λ i. item_body (shown i)) (λ i. item_ended (shown i)) (total_line (totals n shown)))
            ∙ ap (λ p. result_body trained ∷ (separate n (λ i. item_body (shown i)) ++ p)) (parts_last (total_ended (totals n shown)));
        word = ap (λ p. get_or p 0 []) (total_fields_lem (totals n shown));
        count = count_total ∙ sym (count_read_lem shown n small_64);
        plus = plus_total ∙ sym (sum_read_lem shown LookedUp n small_64);
        minus = minus_total ∙ sym (sum_read_lem shown PassedOver n small_64);
        equal = plus_total ∙ equal ∙ sym minus_total;
      }
