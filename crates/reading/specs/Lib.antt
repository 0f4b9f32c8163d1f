-- Reading a training file, to be read in this order: Header of the crate `training_file`, Chain of `chain`, Reading (the main definition),
-- Calls (what the public calls answer), Spare (which files are read alike), Answers (what the stages that judge the header answer).
pub mod Reading
pub mod Calls
pub mod Spare
pub mod Answers
