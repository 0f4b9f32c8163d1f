-- `importing::import::import` meets its contract: each answer is that of the stage that gives it. Assumes nothing.
use mathlib.Core.Path.{◌≡◌, refl, sym, ◌∙◌, ap, subst}
use mathlib.Core.Bool.{true, false}
use mathlib.Core.List.{List}
use Prim.Native.Nat.{ℕ, ◌≤◌, ◌<◌}
use native.Mathlib.Omega.{arith}
use lib.Dec.{leb}
use lib.ListN.{length, length-map}
use borrow.Author.Rules.{rules}
use borrow.Author.Tests.{le-leb, lt-leb}
use Rattle.std.specs.Prelude.{Err, Ok, Result, ok_or}
use Rattle.std.proofs.lemmas.Result.{err_from_is_err_and}
use Rattle.buffer.specs.declared.put.Cursor.{Cursor}
use Rattle.buffer.specs.Put.{Put, Room}
use Rattle.buffer.proofs.Laws.Put.{put_then, room_first, room_then}
use Rattle.training_file.specs.declared.item.Item.{Item}
use Rattle.training_file.specs.declared.refusal.Refusal.{Refusal}
use Rattle.training_file.specs.declared.refusal.Refusal.TheVariants as refusal
use Rattle.training_file.specs.declared.parameters.Parameters.{Parameters}
use Rattle.training_file.specs.Parameters.{parameters_allowed, records_most}
use Rattle.training_file.specs.Layout.{feature_count}
use Rattle.training_file.specs.declared.item.Label.TheVariants.{LookedUp}
use Rattle.training_file.specs.Item.{both_labels, item_in, labelled}
use Rattle.training_file.specs.Record.{every}
use Rattle.training_file.proofs.Laws.Parameters.{allowed_ranges}
use Rattle.training_file.proofs.Laws.Item.{labels_all, labels_both, labels_none}
use Rattle.training_file.proofs.Laws.Answers.{if_ok}
use Rattle.written_file.specs.File.{file_length, file_of, header_bytes, item_records}
use Rattle.written_file.specs.Output.{Writing, file_fits, length_answer, wrote, refused}
use Rattle.written_file.proofs.Laws.Output.{Comes, passes_on, refuses}
use Rattle.written_file.proofs.Laws.Records.{file_room, file_written, file_put}
use Rattle.libsvm_text.specs.Items.{line_allowed, line_item, line_items}
use Rattle.libsvm_text.specs.Lines.{text_lines}
use Rattle.importing.specs.declared.passes.Judged.{Judged}
use Rattle.importing.specs.Importing.{importing}
use Rattle.importing.specs.Judged.{Importable, found_items, judged}
use Rattle.importing.proofs.Laws.Call.{imports_10, imports_11, imports_12, imports_2, imports_4, imports_5, imports_all}
use Rattle.importing.proofs.Laws.Passes.{Known, items_are, items_counted, items_sixteen, known_lines, known_looked, known_none, known_wide}
use Rattle.importing.proofs.import.import.Goals as goal
use Rattle.importing.proofs.import.import.Goals.{then-looked_up-eq0-via-then-looked_up-eq0, then-looked_up-eq0-via-else-looked_up-eq0+then-looked_up-judged}

-- ---- what is known once a stage is passed

module _ (p : Parameters) (text output : List ℕ) where
  -- what the call comes to
  abbrev coming : Writing
  coming = importing p text (length output)

  refused_2 : parameters_allowed p ≡ false → Comes coming output (Err refusal.Header) output
  refused_2 a = refuses coming output refusal.Header (imports_2 p text (length output) a)

  module _ (a : parameters_allowed p ≡ true) where
    refused_11 : {why : Refusal} → Err why ≡ judged (text_lines p.used text) → Comes coming output (Err why) output
    refused_11 {why} j =
        let told = known_none (text_lines p.used text) j in
        refuses coming output why (imports_11 p text (length output) a told.1 ∙ ap refused (sym told.0))

    -- the text is of the form
    module _ {told : Judged} (j : Ok told ≡ judged (text_lines p.used text)) where
      known : Known (text_lines p.used text) told
      known = known_lines (text_lines p.used text) j

      refused_12 : records_most < told.lines → Comes coming output (Err refusal.Lines) output
      refused_12 many =
          refuses coming output refusal.Lines
          (imports_12 p text (length output) a known.lines known.is (lt-leb (length known.lines) records_most (omega (arith, known.count_is))))

      -- it has not too many lines
      module _ (m : told.lines ≤ records_most) where
        few : leb (length known.lines) records_most ≡ true
        few = le-leb (length known.lines) records_most (omega (arith, known.count_is))

        refused_4 : {why : Refusal} → Err why ≡ ok_or told.looked_up refusal.Record → Comes coming output (Err why) output
        refused_4 {why} w =
            let wide = known_wide known.lines known.looked_is w in
            refuses coming output why (imports_4 p text (length output) a known.lines known.is few wide.1 ∙ ap refused (sym wide.0))

        -- no value is outside the range
        module _ {looked : ℕ} (w : Ok looked ≡ ok_or told.looked_up refusal.Record) where
          allowed : every line_allowed known.lines ≡ true
          allowed = (known_looked known.lines known.looked_is w).0

          looked_is : looked ≡ labelled LookedUp (line_items known.lines)
          looked_is = (known_looked known.lines known.looked_is w).1

          refused_5 : both_labels (line_items known.lines) ≡ false → Comes coming output (Err refusal.Labels) output
          refused_5 b = refuses coming output refusal.Labels (imports_5 p text (length output) a known.lines known.is few allowed b)

          none : looked ≡ 0 → Comes coming output (Err refusal.Labels) output
          none z = refused_5 (labels_none _ (sym looked_is ∙ z))

          all : looked ≡ told.lines → Comes coming output (Err refusal.Labels) output
          all z = refused_5 (labels_all _ (sym looked_is ∙ z ∙ known.count_is ∙ sym (length-map known.lines line_item)))

          abbrev ready : Importable p.used text told.lines
          ready =
              record {
                used = (allowed_ranges p a).used_greatest;
                lines = known.lines;
                found = known.is;
                counted = sym known.count_is;
                most = m;
                allowed = allowed;
              }

          abbrev items : List Item
          items = found_items (text_lines p.used text)

          sixteen : (k : ℕ) → k < told.lines → length (item_in items k).features ≡ feature_count
          sixteen = items_sixteen _ _ _ ready

          fits : {length_told : ℕ} → Ok length_told ≡ length_answer told.lines (length output) → file_fits told.lines (length output) ≡ true
          fits {length_told} l = (if_ok (file_fits told.lines (length output)) (file_length told.lines) refusal.Output length_told (sym l)).0

          room : {before : Cursor} → before.at ≡ 0 → before.bytes.now ≡ output → file_fits told.lines (length output) ≡ true
              → Room (file_put items told.lines sixteen p) before
          room start is e = file_room items told.lines sixteen p start (ap (λ (l : List ℕ). file_fits told.lines (length l)) is ∙ e)

          -- both labels are there
          module _ (some : looked ≡ 0 → ⊥) (less : looked ≡ told.lines → ⊥) where
            both : both_labels (line_items known.lines) ≡ true
            both =
                labels_both _ (λ e. some (looked_is ∙ e))
                (λ e. less (looked_is ∙ e ∙ length-map known.lines line_item ∙ sym known.count_is))

            refused_10 : {why : Refusal} → Err why ≡ length_answer told.lines (length output) → Comes coming output (Err why) output
            refused_10 answered =
                passes_on coming output (file_fits told.lines (length output)) (file_length told.lines) refusal.Output answered refl
                (λ e.
                imports_10 p text (length output) a known.lines known.is few allowed both
                (ap (λ (n : ℕ). file_fits n (length output)) (sym known.count_is) ∙ e))

            written : {before after : Cursor} {answer : Result ℕ Refusal} → before.at ≡ 0 → before.bytes.now ≡ output
                → file_fits told.lines (length output) ≡ true → answer ≡ length_answer told.lines (length output)
                → Put (file_put items told.lines sixteen p) before after → Comes coming output answer after.bytes.now
            written {before} {after} {answer} start is e answered put =
                let size = ap (λ (l : List ℕ). length l) is in
                subst (λ o. Comes coming o answer after.bytes.now) is
                (file_written items told.lines sixteen p start (ap (file_fits told.lines) size ∙ e) (items_counted _ _ _ ready) coming
                (imports_all p text (length output) a known.lines known.is few allowed both
                (ap (λ (n : ℕ). file_fits n (length output)) (sym known.count_is) ∙ e)
                ∙ ap (λ (l : List Item). wrote (file_of p l)) (sym (items_are _ _ _ ready)))
                (answered ∙ ap (length_answer told.lines) (sym size)) put)

pub returns-then-not-allowed : goal.returns-then-not-allowed
returns-then-not-allowed c =
    let comes = refused_2 c.args.parameters c.args.text.now c.args.output.now (sym c.allowed.ensures ∙ c.if-not-allowed.true) in
    record { answer = comes.0; output = comes.1 }

pub judge_text-requires : goal.judge_text-requires
judge_text-requires c = (allowed_ranges _ (sym c.allowed.ensures ∙ c.if-not-allowed.false)).used_greatest

pub returns-in_err-judged : goal.returns-in_err-judged
returns-in_err-judged c =
    let comes = refused_11 c.args.parameters c.args.text.now c.args.output.now (sym c.allowed.ensures ∙ c.if-not-allowed.false) c.in_err-judged.ensures in
    let passed = err_from_is_err_and c.from_residual.result c.from_residual.ensures.1 in
    record { answer = rw (passed.1, passed.2) comes.0; output = comes.1 }

pub returns-then-judged-gt-MAX_RECORDS : goal.returns-then-judged-gt-MAX_RECORDS
returns-then-judged-gt-MAX_RECORDS c =
    let comes = refused_12 c.args.parameters c.args.text.now c.args.output.now (sym c.allowed.ensures ∙ c.if-not-allowed.false)
    c.in_ok-judged.ensures (omega arith) in
    record { answer = comes.0; output = comes.1 }

pub returns-in_err-looked_up : goal.returns-in_err-looked_up
returns-in_err-looked_up c =
    let comes = refused_4 c.args.parameters c.args.text.now c.args.output.now (sym c.allowed.ensures ∙ c.if-not-allowed.false)
    c.in_ok-judged.ensures (omega arith) c.in_err-looked_up.ensures.value in
    let passed = err_from_is_err_and c.from_residual-in_err-looked_up.result c.from_residual-in_err-looked_up.ensures.1 in
    record { answer = rw (passed.1, passed.2) comes.0; output = comes.1 }

pub returns-then-looked_up-eq0 : goal.returns-then-looked_up-eq0
returns-then-looked_up-eq0 c =
    let a = sym c.allowed.ensures ∙ c.if-not-allowed.false in
    let few : c.in_ok-judged.judged.lines ≤ records_most = omega arith in
    let comes = elim c.then-looked_up-eq0.branch as (λ w. Comes (importing c.args.parameters c.args.text.now (length c.args.output.now)) c.args.output.now (Err refusal.Labels) c.args.output.now) [
      | then-looked_up-eq0-via-then-looked_up-eq0 w ↦ none _ _ _ a c.in_ok-judged.ensures few c.in_ok-looked_up.ensures.value w.if-looked_up-eq0.true
      | then-looked_up-eq0-via-else-looked_up-eq0+then-looked_up-judged w ↦ all _ _ _ a c.in_ok-judged.ensures few c.in_ok-looked_up.ensures.value w.if-looked_up-judged.true
    ] in
    record { answer = comes.0; output = comes.1 }

pub returns-in_err-length : goal.returns-in_err-length
returns-in_err-length c =
    let comes = refused_10 c.args.parameters c.args.text.now c.args.output.now (sym c.allowed.ensures ∙ c.if-not-allowed.false)
    c.in_ok-judged.ensures (omega arith) c.in_ok-looked_up.ensures.value c.if-looked_up-eq0.false c.if-looked_up-judged.false c.in_err-length.ensures in
    let passed = err_from_is_err_and c.from_residual-in_err-length.result c.from_residual-in_err-length.ensures.1 in
    record { answer = rw (passed.1, passed.2) comes.0; output = comes.1 }

pub put_header-requires : goal.put_header-requires
put_header-requires c =
    let a = sym c.allowed.ensures ∙ c.if-not-allowed.false in
    let few : c.in_ok-judged.judged.lines ≤ records_most = omega arith in
    let e = fits c.args.parameters c.args.text.now c.args.output.now a c.in_ok-judged.ensures few c.in_ok-looked_up.ensures.value c.in_ok-length.ensures in
    let space = room c.args.parameters c.args.text.now c.args.output.now a c.in_ok-judged.ensures few c.in_ok-looked_up.ensures.value refl refl e in
    record { room = room_first (header_bytes _ c.args.parameters) (item_records _ _ _) space; most = (few, (allowed_ranges _ a).used_greatest) }

pub put_lines-requires : goal.put_lines-requires
put_lines-requires c =
    let a = sym c.allowed.ensures ∙ c.if-not-allowed.false in
    let few : c.in_ok-judged.judged.lines ≤ records_most = omega arith in
    let e = fits c.args.parameters c.args.text.now c.args.output.now a c.in_ok-judged.ensures few c.in_ok-looked_up.ensures.value c.in_ok-length.ensures in
    let space = room c.args.parameters c.args.text.now c.args.output.now a c.in_ok-judged.ensures few c.in_ok-looked_up.ensures.value refl refl e in
    record {
      room = room_then c.put_header.ensures space;
      importable = ready c.args.parameters c.args.text.now c.args.output.now a c.in_ok-judged.ensures few c.in_ok-looked_up.ensures.value;
    }

pub returns : goal.returns
returns c =
    let a = sym c.allowed.ensures ∙ c.if-not-allowed.false in
    let few : c.in_ok-judged.judged.lines ≤ records_most = omega arith in
    let e = fits c.args.parameters c.args.text.now c.args.output.now a c.in_ok-judged.ensures few c.in_ok-looked_up.ensures.value c.in_ok-length.ensures in
    let comes = written c.args.parameters c.args.text.now c.args.output.now a c.in_ok-judged.ensures few c.in_ok-looked_up.ensures.value
    c.if-looked_up-eq0.false c.if-looked_up-judged.false refl refl e c.in_ok-length.ensures (put_then c.put_header.ensures c.put_lines.ensures) in
    record { answer = comes.0; output = search rules }
