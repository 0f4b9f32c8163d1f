-- What the calls for C answer, by what the library answers. Assumes nothing.
pub mod Certifying
pub mod Classifying
pub mod Importing
pub mod Numbering
pub mod Parameters
pub mod Reading
pub mod Refusals
pub mod Training
pub mod Writing
