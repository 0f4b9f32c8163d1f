-- What a training file consists of, to be read in this order: Refusal, Layout, Parameters, Item, Header, Record, Answers (what the code
-- answers, by these).
pub mod Refusal
pub mod Layout
pub mod Parameters
pub mod Item
pub mod Header
pub mod Record
pub mod Answers
