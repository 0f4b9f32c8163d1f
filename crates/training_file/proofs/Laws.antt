-- The laws of the definitions in specs/: those of X are in Laws/X.antt. No contract cites them. Assumes nothing.
pub mod Refusal
pub mod Layout
pub mod Parameters
pub mod Item
pub mod Header
pub mod Record
pub mod Answers
