-- What the stages of reading answer that walk the chain, each by the definition that it works out, and what a later stage relies on. Assumes
-- nothing.
use Rattle.std.specs.Prelude.{◌≡◌, cond, List, [], ◌++◌, map, ℕ, ◌+◌, leb, eqb, length, take, drop, Result, Ok, Err}
use Rattle.training_file.specs.declared.refusal.Refusal.{Refusal}
use Rattle.training_file.specs.declared.refusal.Refusal.TheVariants as refusal
use Rattle.training_file.specs.declared.item.Label.TheVariants.{LookedUp}
use Rattle.training_file.specs.Refusal.{refusal_at}
use Rattle.training_file.specs.Layout.{next_of, records_stored}
use Rattle.training_file.specs.Item.{labelled}
use Rattle.training_file.specs.Header.{WholeFile}
use Rattle.training_file.specs.Record.{every, item_at, record_allowed}
use Rattle.training_file.specs.Answers.{ok_if}
use Rattle.chain.specs.declared.link.Link.{Link}
use Rattle.chain.specs.declared.link.Link.TheVariants.{Ended, Over, Next}
use Rattle.chain.specs.Walk.{Walk, broken, ends}
use Rattle.chain.specs.Chain.{chain_of}

-- ---- stage 3: the number of items

-- What the walk finds at a number, with so many records met before: "0 ends the chain"; the next number of a record of 1 to m; otherwise a
-- number over m.
abbrev pub link_at : List ℕ → ℕ → ℕ → Link
link_at file number met =
    cond (eqb number 0) (Ended met) (cond (leb number (records_stored file)) (Next (next_of file number)) Over)

-- the number that a link leads to; 0 where it leads to none
abbrev pub link_next : Link → ℕ
link_next (Ended met) = 0
link_next Over = 0
link_next (Next number) = number

abbrev pub walk_answer : Walk → Result ℕ Refusal
walk_answer (broken number r) = Err (refusal_at number r)
walk_answer (ends records) = Ok (length records)

abbrev pub records_of : Walk → List ℕ
records_of (broken number r) = []
records_of (ends records) = records

-- the record numbers in chain order, where the chain ends
abbrev pub order_of : List ℕ → List ℕ
order_of file = records_of (chain_of file)

-- the chain of the file ends, with n records
pub record Chained (file : List ℕ) (n : ℕ) : Type 0 where
  pub file_whole : WholeFile file
  pub ended : chain_of file ≡ ends (order_of file)
  pub counted : n ≡ length (order_of file)

-- ---- stage 4: how many items are looked up

-- of these records, with k looked up before them
abbrev pub judge_answer : ℕ → List ℕ → ℕ → List ℕ → Result ℕ Refusal
judge_answer d file k records =
    ok_if (every (record_allowed d file) records) (k + labelled LookedUp (map (item_at file) records)) refusal.Record

-- ---- the order written down

-- a table with the record numbers of a list in its first places, as many as it has places for; later places keep theirs
abbrev pub table_with : List ℕ → List ℕ → List ℕ
table_with records table = take (length table) records ++ drop (length records) table
