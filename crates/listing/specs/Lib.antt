-- The program's listing (document 01, last part of "Settled examples") as a list of bytes. Assumes nothing.
pub mod Listing
