-- Document 01, refusals 6 to 8 and certifying. Assumes nothing.
pub mod Multipliers
pub mod Certify
