-- Document 01, "The step": what a step writes. Assumes nothing.
pub mod Update
