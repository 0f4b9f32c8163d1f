-- Importing a text of libsvm's line form. To be read in this order: Importing, Judged.
pub mod Importing
pub mod Judged
