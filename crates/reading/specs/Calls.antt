-- What the public calls answer, by the main definition (Reading). Assumes nothing.
use Rattle.std.specs.Prelude.{◌≡◌, List, [], ℕ, ◌<◌, length, get_or, Result, Ok, Err}
use Rattle.training_file.specs.declared.parameters.Parameters.{Parameters}
use Rattle.training_file.specs.declared.item.Item.{Item}
use Rattle.training_file.specs.declared.refusal.Refusal.{Refusal}
use Rattle.chain.specs.Answers.{table_with}
use Rattle.reading.specs.Reading.{Reading, accepted, reading, refused}

-- what reading a file answers: the refusal, or the parameters and how many items there are
abbrev pub file_answer : Reading → Result (Parameters × ℕ) Refusal
file_answer (refused why) = Err why
file_answer (accepted parameters records items) = Ok (parameters, length records)

-- the lent order table afterwards: the record numbers in chain order are written into it; on a refusal it keeps its contents
abbrev pub table_after : Reading → List ℕ → List ℕ
table_after (refused why) table = table
table_after (accepted parameters records items) table = table_with records table

-- the record numbers and the items of a file that is accepted, in chain order; none of one that is refused
abbrev pub order_in : Reading → List ℕ
order_in (refused why) = []
order_in (accepted parameters records items) = records

abbrev pub items_in : Reading → List Item
items_in (refused why) = []
items_in (accepted parameters records items) = items

-- "The first refusal met ends the call": what a call that reads its file first comes to, by what a refusal of the file gives, and by what
-- the parameters, the record numbers and the items of an accepted one give
abbrev pub file_first : {A : Type 0} → (Refusal → A) → (Parameters → List ℕ → List Item → A) → Reading → A
file_first refusal call (refused why) = refusal why
file_first refusal call (accepted parameters records items) = call parameters records items

-- what fetching an item by its place relies on: the place is one of an accepted file, and the table has its record number
pub record Tabled (file table : List ℕ) (place : ℕ) : Type 0 where
  pub counted : place < length (order_in (reading file))
  pub held : place < length table
  pub same : get_or table place 0 ≡ get_or (order_in (reading file)) place 0
