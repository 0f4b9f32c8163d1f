-- What it is to put bytes into a lent buffer. Assumes nothing.
pub mod Put
