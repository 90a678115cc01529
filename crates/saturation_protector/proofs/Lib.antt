-- The theorems that the definitions do not rest on: a definition that breaks one is refused here.
pub mod Joined
pub mod Forty
pub mod Short
pub mod Gaps
-- What the proofs of several functions share.
pub mod Accepted
