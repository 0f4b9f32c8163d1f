-- Document 01, "The step": the run, and what its endings mean. Assumes nothing.
pub mod Run
pub mod Answers
