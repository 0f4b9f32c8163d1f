-- `listing::list::put_accepted` meets its contract: the items put are those of the file, with the multipliers that training left. Assumes
-- nothing.
use Rattle.std.proofs.Common.{◌≡◌, sym, ◌∙◌, ap, List, ◌++◌, ℕ, ℤ, ◌≤◌, arith, length, rules, Ok}
use Rattle.buffer.proofs.Laws.Put.{put_as, put_then, room_as, room_first, room_then}
use Rattle.reading.specs.Reading.{reading, refused}
use Rattle.reading.specs.Calls.{items_in, order_in}
use Rattle.smo.specs.declared.run.Trained.{Trained}
use Rattle.dual_problem.specs.declared.problem.FileProblem.{FileProblem}
use Rattle.dual_problem.specs.Given.{count_in}
use Rattle.dual_problem.specs.Problem.{at}
use Rattle.training.specs.Train.{TrainingLeft, train_file}
use Rattle.lines.specs.Lines.{items_with_total, result_line, shown_in}
use Rattle.listing.specs.Listing.{listing, listing_of}
use Rattle.listing.proofs.Laws.Listing.{items_few, listing_trained, training_refused}
use Rattle.listing.proofs.list.put_accepted.Goals as goal

-- the text of a training that ended, of the problem that was read, is the listing
text_is : (file a multipliers : List ℕ) (g gradient : List ℤ) (f : FileProblem) {trained : Trained}
    → record { answer = Ok trained; multipliers = multipliers; gradient = gradient } ≡ train_file file a g
    → length (items_in (reading file)) ≤ length a → length (items_in (reading file)) ≤ length g → f.file.now ≡ file
    → result_line trained ++ items_with_total (count_in f) (shown_in f.file.now multipliers) ≡ listing_of (reading file)
unfolding listing
text_is file a multipliers g gradient f {trained} left long wide is =
    (λ t. result_line trained ++ items_with_total ((f.listed.counted ∙ ap (λ x. length (items_in (reading x))) is) t) (shown_in (is t) multipliers))
    ∙ (λ t. let after : TrainingLeft = left t in listing after.answer (order_in (reading file)) (items_in (reading file)) (at after.multipliers))
    ∙ listing_trained file a g long wide

pub put_result-requires : goal.put_result-requires
put_result-requires c =
    let f = c.args.file.now in
    let text = text_is f _ _ _ _ c.in_ok-problem.problem c.in_ok-trained.ensures.left (items_few f) (items_few f) c.in_ok-problem.ensures.0 in
    room_first _ _ (room_as (sym text) c.requires)

pub put_items-requires : goal.put_items-requires
put_items-requires c =
    let f = c.args.file.now in
    let text = text_is f _ _ _ _ c.in_ok-problem.problem c.in_ok-trained.ensures.left (items_few f) (items_few f) c.in_ok-problem.ensures.0 in
    (omega (arith, c.in_ok-problem.problem.listed.few), room_then c.put_result.ensures (room_as (sym text) c.requires))

pub returns-in_err-trained : goal.returns-in_err-trained
returns-in_err-trained c =
    let f = c.args.file.now in
    let why : reading f ≡ refused c.in_err-trained.field-0.0 =
    training_refused f _ _ (items_few f) (items_few f) c.in_err-trained.field-0.0 (sym (ap (λ (left : TrainingLeft). left.answer) c.in_err-trained.ensures.left)) in
    search rules

pub returns : goal.returns
returns c =
    let f = c.args.file.now in
    put_as (text_is f _ _ _ _ c.in_ok-problem.problem c.in_ok-trained.ensures.left (items_few f) (items_few f) c.in_ok-problem.ensures.0) (put_then c.put_result.ensures c.put_items.ensures)
