-- The laws that the proofs of every crate above cite: of ℤ and of tests, and those of X in specs/ in Laws/X.antt. No contract cites them.
-- Assumes nothing.
pub mod Truth
pub mod Ring
pub mod Solver
pub mod Linear
pub mod Order
pub mod Zero
pub mod Equal
pub mod Sum
pub mod Bounds
pub mod Sign
pub mod Places
pub mod Member
pub mod Tabulate
pub mod Written
pub mod Extremum
pub mod Gram
