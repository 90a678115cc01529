-- Lemmas that several proofs share.
pub mod Tested
