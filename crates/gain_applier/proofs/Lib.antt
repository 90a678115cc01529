-- What the proofs of this crate share.
pub mod Signed
pub mod Changed
