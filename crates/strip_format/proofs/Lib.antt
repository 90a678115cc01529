-- What the proofs of the functions share.
pub mod Refused
pub mod Writing
