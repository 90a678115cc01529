-- Lemmas that several proofs share.
pub mod Flags
pub mod Told
