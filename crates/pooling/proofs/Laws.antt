-- The laws of the definitions in specs/. No contract cites them. Assumes nothing.
pub mod Call
pub mod Pooling
pub mod Left
pub mod Read
