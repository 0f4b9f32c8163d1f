-- What the definitions of every crate above are made of: numbers of 0 to n, the tests for 0 and for equality, sums over places, tests of places, membership,
-- lists by their places, lists written at their first places, the least and the greatest, Gram forms. The integers are those of lib.IntN, with the order of lib.Signed.
-- Assumes nothing.
pub mod Range
pub mod Zero
pub mod Equal
pub mod Sum
pub mod Places
pub mod Member
pub mod Tabulate
pub mod Written
pub mod Extremum
pub mod Gram
