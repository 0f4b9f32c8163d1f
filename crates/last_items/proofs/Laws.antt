-- The laws of the definitions in specs/. No contract cites them. Assumes nothing.
pub mod Last
pub mod Kept
