-- The laws of the definitions in specs/: those of X are in Laws/X.antt. No contract cites them. Assumes nothing.
pub mod Kernel
pub mod Problem
pub mod Size
pub mod FileProblem
pub mod Results
