-- Document 01: the settled examples. Assumes nothing.
pub mod Settled
