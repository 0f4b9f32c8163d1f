-- `listing::list::list` meets its contract: every listing has room. Assumes nothing.
use Rattle.std.proofs.Common.{refl, arith}
use Rattle.buffer.proofs.Laws.Put.{put_all}
use Rattle.listing.proofs.Laws.Listing.{listing_fits}
use Rattle.listing.proofs.list.list.Goals as goal

pub put_listing-requires : goal.put_listing-requires
put_listing-requires c = record { fits = omega (arith, listing_fits c.args.file.now) }

pub returns-clause-buffer : goal.returns-clause-buffer
returns-clause-buffer c = (put_all refl (omega (arith, listing_fits c.args.file.now)) c.put_listing.ensures).1
