-- The pool of two files. To be read in this order: Last of the crate `last_items` (which items stay), Pooling (the main definition), Left (what
-- the code rests on).
pub mod Pooling
pub mod Left
