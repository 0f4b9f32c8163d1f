-- The training file of parameters and items, as bytes. To be read in this order: Fields, File, Stored, Output.
pub mod Fields
pub mod File
pub mod Stored
pub mod Output
