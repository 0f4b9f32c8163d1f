-- `pooling::pool::pool` meets its contract: each answer is that of the stage that gives it. Assumes nothing.
use mathlib.Core.Path.{◌≡◌, refl, sym, ◌∙◌, ap}
use mathlib.Core.Bool.{true, false}
use mathlib.Core.List.{List, ◌++◌}
use Prim.Native.Nat.{ℕ}
use lib.ListN.{length, take}
use Rattle.std.proofs.Common.{Result, Err}
use Rattle.std.proofs.lemmas.List.{length-take-le}
use Rattle.std.proofs.lemmas.Result.{err_from_is_err_and}
use Rattle.training_file.specs.declared.refusal.Refusal.{Refusal}
use Rattle.training_file.specs.declared.refusal.Refusal.TheVariants as refusal
use Rattle.training_file.specs.declared.item.Item.{Item}
use Rattle.training_file.specs.declared.parameters.Parameters.{Parameters}
use Rattle.training_file.specs.Layout.{feature_count}
use Rattle.written_file.specs.Output.{Writing, output_after, written_answer}
use Rattle.written_file.proofs.Laws.Output.{Comes, refuses}
use Rattle.reading.specs.Reading.{reading}
use Rattle.reading.specs.Calls.{file_answer}
use Rattle.last_items.specs.Last.{last_only}
use Rattle.last_items.specs.Kept.{items_at}
use Rattle.pooling.specs.Pooling.{alike, pooling, write_left}
use Rattle.pooling.proofs.Laws.Call.{pools_14, pools_left, pools_newer, pools_older}
use Rattle.pooling.proofs.Laws.Read.{OrderIn, order_in_lem, order_in_last, order_in_used, read_refused}
use Rattle.pooling.proofs.pool.pool.Goals as goal

-- ---- what is known once a stage is passed

module _ (older newer output : List ℕ) where
  -- what the call comes to
  abbrev coming : Writing
  coming = pooling older newer (length output)

  refused_older : {why : Refusal} → Err why ≡ file_answer (reading older) → Comes coming output (Err why) output
  refused_older {why = why} a = refuses coming output why (pools_older older newer (length output) why (read_refused (reading older) a))

  -- the older file is accepted
  module _ (p : Parameters) (count : ℕ) (table : List ℕ) (l : OrderIn older p count table) where
    refused_newer : {why : Refusal} → Err why ≡ file_answer (reading newer) → Comes coming output (Err why) output
    refused_newer {why = why} a =
        refuses coming output why (pools_newer older newer (length output) p l.order l.items l.read why (read_refused (reading newer) a))

    -- and so is the newer
    module _ (q : Parameters) (count' : ℕ) (table' : List ℕ) (m : OrderIn newer q count' table') where
      refused_14 : alike p q ≡ false → Comes coming output (Err refusal.Unlike) output
      refused_14 e = refuses coming output refusal.Unlike (pools_14 older newer (length output) p l.order l.items l.read q m.order m.items m.read e)

      -- the last of the items that are ordered
      abbrev left : List Item
      left = last_only feature_count (items_at older (take count table) ++ items_at newer (take count' table'))

      -- they are alike
      pools : alike p q ≡ true → {answer : Result ℕ Refusal} {after : List ℕ} → answer ≡ written_answer (write_left (length output) q left)
          → after ≡ output_after (write_left (length output) q left) output → Comes coming output answer after
      pools same a o =
          let is =
          pools_left older newer (length output) p l.order l.items l.read q m.order m.items m.read same left (order_in_last _ _ _ _ l _ _ _ _ m same) in
          (a ∙ sym (ap written_answer is), o ∙ sym (ap (λ (x : Writing). output_after x output) is))

pub returns-in_err-older_parameters : goal.returns-in_err-older_parameters
returns-in_err-older_parameters c =
    let comes = refused_older c.args.older.now c.args.newer.now c.args.output.now c.in_err-older_parameters.ensures.answer in
    let told = err_from_is_err_and c.from_residual.result c.from_residual.ensures.1 in
    record { answer = rw (told.1, told.2) comes.0; output = comes.1 }

pub returns-in_err-parameters : goal.returns-in_err-parameters
returns-in_err-parameters c =
    let l = order_in_lem c.args.older.now _ refl c.in_ok-older_parameters.ensures.answer c.in_ok-older_parameters.ensures.table in
    let comes = refused_newer c.args.older.now c.args.newer.now c.args.output.now _ _ _ l c.in_err-parameters.ensures.answer in
    let told = err_from_is_err_and c.from_residual-in_err-parameters.result c.from_residual-in_err-parameters.ensures.1 in
    record { answer = rw (told.1, told.2) comes.0; output = comes.1 }

pub returns-then-not-alike : goal.returns-then-not-alike
returns-then-not-alike c =
    let l = order_in_lem c.args.older.now _ refl c.in_ok-older_parameters.ensures.answer c.in_ok-older_parameters.ensures.table in
    let m = order_in_lem c.args.newer.now _ refl c.in_ok-parameters.ensures.answer c.in_ok-parameters.ensures.table in
    let comes = refused_14 c.args.older.now c.args.newer.now c.args.output.now _ _ _ l _ _ _ m (sym c.alike.ensures ∙ c.if-not-alike.true) in
    record { answer = comes.0; output = comes.1 }

pub slice_bounds-older_table-end : goal.slice_bounds-older_table-end
slice_bounds-older_table-end c =
    (order_in_lem c.args.older.now _ refl c.in_ok-older_parameters.ensures.answer c.in_ok-older_parameters.ensures.table).held

pub slice_bounds-pool_items-end : goal.slice_bounds-pool_items-end
slice_bounds-pool_items-end c =
    sym (length-take-le _ _ (order_in_lem c.args.older.now _ refl c.in_ok-older_parameters.ensures.answer c.in_ok-older_parameters.ensures.table).held)

pub slice_bounds-newer_table-end : goal.slice_bounds-newer_table-end
slice_bounds-newer_table-end c =
    (order_in_lem c.args.newer.now _ refl c.in_ok-parameters.ensures.answer c.in_ok-parameters.ensures.table).held

pub slice_bounds-pool_items-end-2 : goal.slice_bounds-pool_items-end-2
slice_bounds-pool_items-end-2 c =
    sym (length-take-le _ _ (order_in_lem c.args.newer.now _ refl c.in_ok-parameters.ensures.answer c.in_ok-parameters.ensures.table).held)

pub pool_items-requires : goal.pool_items-requires
pool_items-requires c =
    let l = order_in_lem c.args.older.now _ refl c.in_ok-older_parameters.ensures.answer c.in_ok-older_parameters.ensures.table in
    let m = order_in_lem c.args.newer.now _ refl c.in_ok-parameters.ensures.answer c.in_ok-parameters.ensures.table in
    record { stored = (l.stored, m.stored); used = order_in_used _ _ _ _ l _ _ _ _ m }

pub returns : goal.returns
returns c =
    let l = order_in_lem c.args.older.now _ refl c.in_ok-older_parameters.ensures.answer c.in_ok-older_parameters.ensures.table in
    let m = order_in_lem c.args.newer.now _ refl c.in_ok-parameters.ensures.answer c.in_ok-parameters.ensures.table in
    let comes =
    pools c.args.older.now c.args.newer.now c.args.output.now _ _ _ l _ _ _ m (sym c.alike.ensures ∙ c.if-not-alike.false) c.pool_items.ensures.answer
    c.pool_items.ensures.output in
    record { answer = comes.0; output = comes.1 }
