-- The chain of a training file: Walk, Chain (what the walk comes to), Answers (what the code answers).
pub mod Walk
pub mod Chain
pub mod Answers
