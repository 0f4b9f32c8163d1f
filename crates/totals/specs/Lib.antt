-- The totals of the item lines (document 02, request (l)). Assumes nothing.
pub mod Totals
