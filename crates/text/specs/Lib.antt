-- Numbers in decimal as lists of bytes, and how a text is taken apart. Assumes nothing.
pub mod Decimal
pub mod Parts
