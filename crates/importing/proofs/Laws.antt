-- The laws of the definitions in specs/. No contract cites them. Assumes nothing.
pub mod Call
pub mod Importing
pub mod Passes
