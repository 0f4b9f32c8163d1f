-- `listing::list::put_listing` meets its contract: what is refused prints its refusal. Assumes nothing.
use Rattle.std.proofs.Common.{◌≡◌, sym, ap}
use Rattle.buffer.proofs.Laws.Put.{put_as, room_as}
use Rattle.reading.specs.Reading.{Reading, refused}
use Rattle.training_file.specs.declared.refusal.Refusal.{Refusal}
use Rattle.lines.specs.Lines.{refusal_line}
use Rattle.listing.specs.Listing.{listing, listing_of}
use Rattle.listing.proofs.list.put_listing.Goals as goal

text_is : (r : Reading) (why : Refusal) → r ≡ refused why → refusal_line why ≡ listing_of r
unfolding listing listing_of
text_is r why e = sym (ap listing_of e)

pub put_refusal-requires : goal.put_refusal-requires
put_refusal-requires c = rw c.in-Err.ensures.1 (room_as (sym (text_is _ c.in-Err.refusal c.in-Err.ensures.0)) c.requires)

pub returns-in-Err : goal.returns-in-Err
returns-in-Err c = rw c.in-Err.ensures.1 at (put_as (text_is _ c.in-Err.refusal c.in-Err.ensures.0) c.put_refusal.ensures)
