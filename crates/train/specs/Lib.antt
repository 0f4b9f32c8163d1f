-- What the program's own functions ask and promise. Assumes nothing.
pub mod Cut
pub mod Input
