-- The laws of the definitions in specs/: those of X are in Laws/X.antt. No contract cites them. Assumes nothing.
pub mod Step
pub mod Move
pub mod Pair
pub mod Division
pub mod State
