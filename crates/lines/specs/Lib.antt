-- The lines that the training program prints (document 01, last part of "Settled examples"). Assumes nothing.
pub mod Lines
pub mod Sheet
