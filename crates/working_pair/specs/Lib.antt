-- Document 01, "The step": which pair moves, by how much, and the move. Read Step and Move first; State, Curvature, Pair and Division are
-- what the code's contracts cite. Assumes nothing.
pub mod Step
pub mod Move
pub mod State
pub mod Curvature
pub mod Pair
pub mod Division
