-- Document 01's worked examples: the starred ones in a table, and the claim that each holds.
pub mod Table
pub mod Claim
