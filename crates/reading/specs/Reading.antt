-- What a training file says: the main definition of this crate (document 01, "The training file" and refusals 1 to 5; document 02, request
-- (k), and 16). Assumes nothing.
use Rattle.std.specs.Prelude.{Bool, true, false, List, map, ℕ}
use Rattle.training_file.specs.declared.parameters.Parameters.{Parameters}
use Rattle.training_file.specs.declared.item.Item.{Item}
use Rattle.training_file.specs.declared.refusal.Refusal.{Refusal}
use Rattle.training_file.specs.declared.refusal.Refusal.TheVariants.{FileLength, Header, Record, Labels}
use Rattle.training_file.specs.Refusal.{refusal_at}
use Rattle.training_file.specs.Record.{item_at, record_allowed, every}
use Rattle.training_file.specs.Item.{both_labels}
use Rattle.training_file.specs.Header.{header_allowed, length_allowed, parameters_of}
use Rattle.chain.specs.Walk.{Walk, broken, ends}
use Rattle.chain.specs.Chain.{chain_of}

-- A refusal, or the parameters, the record numbers in chain order, and the items in that order.
pub data Reading : Type 0 where
  refused : Refusal → Reading
  accepted : Parameters → List ℕ → List Item → Reading

-- the rest of the reading, unless it is refused before
abbrev pub unless : Refusal → Bool → Reading → Reading
unless why true rest = rest
unless why false rest = refused why

-- 3 and 16: "one walk finds either fault, and both are tested before 4". "4: on the chain, .. The whole chain is walked first." Then 5: an
-- empty chain has neither label. A record off the chain is not judged.
abbrev pub read_chain : List ℕ → Walk → Reading
read_chain file (broken number r) = refused (refusal_at number r)
read_chain file (ends records) =
    unless Record (every (record_allowed (parameters_of file).used file) records)
    (unless Labels (both_labels (map (item_at file) records))
    (accepted (parameters_of file) records (map (item_at file) records)))

-- "The first refusal met ends the call", in the order 1, 2, 3 or 16, 4, 5.
unfoldable pub reading : List ℕ → Reading
reading file = unless FileLength (length_allowed file) (unless Header (header_allowed file) (read_chain file (chain_of file)))
