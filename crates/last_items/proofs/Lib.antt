-- What the proofs of the functions rest on: the laws. Assumes nothing.
pub mod Laws
