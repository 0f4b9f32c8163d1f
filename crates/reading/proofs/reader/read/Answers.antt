-- `reading::reader::read` meets its contract: each answer is that of the stage that gives it. Assumes nothing.
use mathlib.Core.Path.{◌≡◌, sym, ap, ap₂, ◌∙◌}
use mathlib.Core.Bool.{Bool, true, false}
use mathlib.Core.List.{List, map}
use Prim.Native.Nat.{ℕ, ◌+◌}
use native.Mathlib.Omega.{arith}
use Rattle.std.proofs.Common.{Result, Ok, Err}
use Rattle.std.proofs.lemmas.Result.{err_from_is_err_and}
use lib.ListN.{length, length-map}
use Rattle.training_file.specs.declared.refusal.Refusal.{Refusal}
use Rattle.training_file.specs.declared.parameters.Parameters.{Parameters}
use Rattle.training_file.specs.declared.item.Label.TheVariants.{LookedUp}
use Rattle.training_file.specs.declared.item.Item.{Item}
use Rattle.training_file.specs.declared.refusal.Refusal.TheVariants as refusal
use Rattle.training_file.specs.Refusal.{refusal_at}
use Rattle.training_file.specs.Answers.{ok_if}
use Rattle.training_file.specs.Record.{item_at, record_allowed, every}
use Rattle.training_file.specs.Item.{labelled, both_labels}
use Rattle.training_file.proofs.Laws.Answers.{if_ok, if_refused, if_why}
use Rattle.training_file.specs.Header.{header_allowed, length_allowed, parameters_of}
use Rattle.training_file.proofs.Laws.Item.{labels_all, labels_both, labels_none}
use Rattle.training_file.proofs.Laws.Header.{allowed_whole}
use Rattle.chain.specs.Walk.{ends}
use Rattle.chain.specs.Chain.{chain_of}
use Rattle.chain.specs.Answers.{Chained, judge_answer, order_of, walk_answer}
use Rattle.chain.proofs.Laws.Answers.{walk_counted, walk_refused}
use Rattle.reading.specs.Answers.{header_answer, stored_answer}
use Rattle.reading.specs.Reading.{reading}
use Rattle.reading.specs.Calls.{file_answer}
use Rattle.reading.proofs.Laws.Reading.{reads_1, reads_2, reads_4, reads_5, reads_all, reads_broken}
use Rattle.reading.proofs.reader.read.Goals.{then-looked_up-eq0-via-then-looked_up-eq0, then-looked_up-eq0-via-else-looked_up-eq0+then-looked_up-items}
use Rattle.reading.proofs.reader.read.Goals as goal

-- ---- what is known once a stage is passed

module _ (file : List ℕ) where
  sized : (stored : ℕ) → stored_answer file ≡ Ok stored → length_allowed file ≡ true
  sized stored s = (if_ok _ _ _ stored s).0

  header : (p : Parameters) → header_answer file ≡ Ok p → (header_allowed file ≡ true) × (parameters_of file ≡ p)
  header p h = if_ok _ _ _ p h

  walked : (n : ℕ) → walk_answer (chain_of file) ≡ Ok n → (chain_of file ≡ ends (order_of file)) × (n ≡ length (order_of file))
  walked n w = walk_counted (chain_of file) n w

  chained : (stored n : ℕ) → stored_answer file ≡ Ok stored → walk_answer (chain_of file) ≡ Ok n → Chained file n
  chained stored n s w = let on = walked n w in record { file_whole = allowed_whole file (sized stored s); ended = on.0; counted = on.1 }

  -- the judging of the records, whose features in use are the parameters'
  abbrev allowed : Bool
  allowed = every (record_allowed (parameters_of file).used file) (order_of file)

  abbrev items : List Item
  items = map (item_at file) (order_of file)

  abbrev looked_up : ℕ
  looked_up = 0 + labelled LookedUp items

  judging : (p : Parameters) → header_answer file ≡ Ok p → judge_answer p.used file 0 (order_of file) ≡ ok_if allowed looked_up refusal.Record
  judging p h = ap (λ (q : Parameters). judge_answer q.used file 0 (order_of file)) (sym (header p h).1)

  broken_off : (stored : ℕ) (p : Parameters) (why : Refusal) → stored_answer file ≡ Ok stored → header_answer file ≡ Ok p → walk_answer (chain_of file) ≡ Err why
      → Err why ≡ file_answer (reading file)
  broken_off stored p why s h w =
      let breaks = walk_refused (chain_of file) why w in
      let broke : ◌≡◌ {A = Result ℕ Refusal} (Err why) (Err (refusal_at breaks.0 breaks.1.0)) = sym w ∙ ap walk_answer breaks.1.1 in
      let same : why ≡ refusal_at breaks.0 breaks.1.0 = cc in
      ap Err same
      ∙ sym (ap file_answer (reads_broken file (sized stored s) (header p h).0 breaks.0 breaks.1.0 breaks.1.1))

  record_fails : (stored n : ℕ) (p : Parameters) (why : Refusal) → stored_answer file ≡ Ok stored → header_answer file ≡ Ok p → walk_answer (chain_of file) ≡ Ok n
      → judge_answer p.used file 0 (order_of file) ≡ Err why → Err why ≡ file_answer (reading file)
  record_fails stored n p why s h w j =
      let judges = sym (judging p h) ∙ j in
      ap Err (sym (if_why _ _ _ why judges))
      ∙ sym (ap file_answer (reads_4 file (sized stored s) (header p h).0 _ (walked n w).0 (if_refused _ _ _ why judges)))

-- ---- what is known once the records are judged

module _ (file : List ℕ) (stored n k : ℕ) (p : Parameters) (s : stored_answer file ≡ Ok stored) (h : header_answer file ≡ Ok p)
    (w : walk_answer (chain_of file) ≡ Ok n) (j : judge_answer p.used file 0 (order_of file) ≡ Ok k) where
  judged : (allowed file ≡ true) × (looked_up file ≡ k)
  judged = if_ok (allowed file) (looked_up file) refusal.Record k (sym (judging file p h) ∙ j)

  looked_up_lem : labelled LookedUp (items file) ≡ k
  looked_up_lem = omega (arith, judged.1)

  counted : length (items file) ≡ n
  counted = length-map (order_of file) (item_at file) ∙ sym (walked file n w).1

  refused_5 : both_labels (items file) ≡ false → Err refusal.Labels ≡ file_answer (reading file)
  refused_5 b = sym (ap file_answer (reads_5 file (sized file stored s) (header file p h).0 _ (walked file n w).0 judged.0 b))

  none : k ≡ 0 → Err refusal.Labels ≡ file_answer (reading file)
  none z = refused_5 (labels_none _ (looked_up_lem ∙ z))

  all : k ≡ n → Err refusal.Labels ≡ file_answer (reading file)
  all z = refused_5 (labels_all _ (looked_up_lem ∙ z ∙ sym counted))

  both : (k ≡ 0 → ⊥) → (k ≡ n → ⊥) → Ok (p, n) ≡ file_answer (reading file)
  both some less =
      let labels = labels_both (items file) (λ e. some (sym looked_up_lem ∙ e)) (λ e. less (sym looked_up_lem ∙ e ∙ counted)) in
      ap₂ (λ (q : Parameters) (m : ℕ). Ok (q, m)) (sym (header file p h).1) (walked file n w).1
      ∙ sym (ap file_answer (reads_all file (sized file stored s) (header file p h).0 _ (walked file n w).0 judged.0 labels))

-- ---- what each stage answered

pub returns-in_err-count_records : goal.returns-in_err-count_records
returns-in_err-count_records c =
    let p = err_from_is_err_and c.from_residual.result c.from_residual.ensures.1 in
    let answered = sym c.count_records.ensures ∙ c.in_err-count_records.was in
    rw (p.1, p.2) (ap Err (sym (if_why _ _ _ _ answered)) ∙ sym (ap file_answer (reads_1 c.args.file.now (if_refused _ _ _ _ answered))))

pub read_parameters-requires : goal.read_parameters-requires
read_parameters-requires c = omega (arith, (allowed_whole _ (sized c.args.file.now _ (sym c.count_records.ensures ∙ c.in_ok-count_records.was))).whole)

pub returns-in_err-parameters : goal.returns-in_err-parameters
returns-in_err-parameters c =
    let p = err_from_is_err_and c.from_residual-in_err-parameters.result c.from_residual-in_err-parameters.ensures.1 in
    let stored = sym c.count_records.ensures ∙ c.in_ok-count_records.was in
    let answered = sym c.read_parameters.ensures ∙ c.in_err-parameters.was in
    rw (p.1, p.2)
    (ap Err (sym (if_why _ _ _ _ answered)) ∙ sym (ap file_answer (reads_2 c.args.file.now (sized c.args.file.now _ stored) (if_refused _ _ _ _ answered))))

pub walk-requires : goal.walk-requires
walk-requires c = allowed_whole _ (sized c.args.file.now _ (sym c.count_records.ensures ∙ c.in_ok-count_records.was))

pub returns-in_err-items : goal.returns-in_err-items
returns-in_err-items c =
    let p = err_from_is_err_and c.from_residual-in_err-items.result c.from_residual-in_err-items.ensures.1 in
    let stored = sym c.count_records.ensures ∙ c.in_ok-count_records.was in
    let header_read = sym c.read_parameters.ensures ∙ c.in_ok-parameters.was in
    let answered = sym c.walk.ensures ∙ c.in_err-items.was in
    rw (p.1, p.2) (broken_off c.args.file.now _ _ _ stored header_read answered)

pub judge_records-requires : goal.judge_records-requires
judge_records-requires c =
    chained c.args.file.now _ _ (sym c.count_records.ensures ∙ c.in_ok-count_records.was) (sym c.walk.ensures ∙ c.in_ok-items.was)

pub returns-in_err-looked_up : goal.returns-in_err-looked_up
returns-in_err-looked_up c =
    let p = err_from_is_err_and c.from_residual-in_err-looked_up.result c.from_residual-in_err-looked_up.ensures.1 in
    let stored = sym c.count_records.ensures ∙ c.in_ok-count_records.was in
    let header_read = sym c.read_parameters.ensures ∙ c.in_ok-parameters.was in
    let walk_ended = sym c.walk.ensures ∙ c.in_ok-items.was in
    let answered = sym c.judge_records.ensures ∙ c.in_err-looked_up.was in
    rw (p.1, p.2) (record_fails c.args.file.now _ _ _ _ stored header_read walk_ended answered)

pub returns-then-looked_up-eq0 : goal.returns-then-looked_up-eq0
returns-then-looked_up-eq0 c =
    let stored = sym c.count_records.ensures ∙ c.in_ok-count_records.was in
    let header_read = sym c.read_parameters.ensures ∙ c.in_ok-parameters.was in
    let walk_ended = sym c.walk.ensures ∙ c.in_ok-items.was in
    let answered = sym c.judge_records.ensures ∙ c.in_ok-looked_up.was in
    elim c.then-looked_up-eq0.branch [
      | then-looked_up-eq0-via-then-looked_up-eq0 w ↦ none c.args.file.now _ _ _ _ stored header_read walk_ended answered w.if-looked_up-eq0.true
      | then-looked_up-eq0-via-else-looked_up-eq0+then-looked_up-items w ↦
          all c.args.file.now _ _ _ _ stored header_read walk_ended answered w.if-looked_up-items.true
    ]

pub returns : goal.returns
returns c =
    let stored = sym c.count_records.ensures ∙ c.in_ok-count_records.was in
    let header_read = sym c.read_parameters.ensures ∙ c.in_ok-parameters.was in
    let walk_ended = sym c.walk.ensures ∙ c.in_ok-items.was in
    let answered = sym c.judge_records.ensures ∙ c.in_ok-looked_up.was in
    both c.args.file.now _ _ _ _ stored header_read walk_ended answered c.if-looked_up-eq0.false c.if-looked_up-items.false
