-- Document 01: what classifying answers. Assumes nothing.
pub mod Classify
