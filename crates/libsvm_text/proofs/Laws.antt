-- The laws of the definitions in specs/. No contract cites them. Assumes nothing.
pub mod Form
pub mod Steps
pub mod Lines
pub mod Ends
pub mod Features
pub mod Items
pub mod Taken
pub mod Numeral
pub mod Value
pub mod Group
pub mod Groups
pub mod Reading
pub mod Line
