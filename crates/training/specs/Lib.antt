-- Document 01, "The step": what training answers and leaves, and its quality. Assumes nothing.
pub mod Train
