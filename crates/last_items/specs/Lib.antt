-- The last of items with the same features. To be read in this order: Last (the main definition), Kept (what the code rests on), Records
-- (the same of the struct that has a file with its numbers).
pub mod Last
pub mod Kept
pub mod Records
