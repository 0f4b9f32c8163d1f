-- The laws of the definitions in specs/: those of X are in Laws/X.antt. No contract cites them. Assumes nothing.
pub mod Certifying
pub mod Refusals
pub mod Training
