-- What the program asks of the length of its buffer, since it reads no further. Assumes nothing.
use Rattle.std.specs.Prelude.{◌≡◌, List, ℕ, take}
use Rattle.reading.specs.Reading.{reading}
use Rattle.listing.specs.Listing.{listing_of}

-- the listing of every file is that of its first bytes, so many as there are places
pub record SameWhenCut (places : ℕ) : Type 0 where
  pub same : (file : List ℕ) → listing_of (reading (take places file)) ≡ listing_of (reading file)
