-- `reading::reader::order` meets its contract: a refusal is passed on before the table is written. Assumes nothing.
use mathlib.Core.Path.{sym, ◌∙◌}
use Rattle.reading.proofs.Laws.Calls.{table_accepted}
use Rattle.reading.proofs.reader.order.Goals as goal

pub fill-requires : goal.fill-requires
fill-requires c = (table_accepted c.args.file.now c.args.table.now _ _ (sym c.read.ensures ∙ c.in_ok-parameters.was)).0

pub returns-clause-table : goal.returns-clause-table
returns-clause-table c = c.fill.ensures ∙ (table_accepted c.args.file.now c.args.table.now _ _ (sym c.read.ensures ∙ c.in_ok-parameters.was)).1
