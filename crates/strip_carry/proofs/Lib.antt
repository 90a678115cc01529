-- What the proofs of the functions share.
pub mod Lines
pub mod Bytes
