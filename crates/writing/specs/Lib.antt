-- Writing a file of items in memory. To be read in this order: Row, Writing.
pub mod Row
pub mod Writing
