-- What the proofs of the functions rest on: the laws, and examples as the definitions compute them. Assumes nothing.
pub mod Laws
pub mod Examples
