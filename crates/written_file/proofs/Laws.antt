-- The laws of the definitions in specs/: those of X are in Laws/X.antt. No contract cites them. Assumes nothing.
pub mod Fields
pub mod File
pub mod Stored
pub mod Output
pub mod Records
