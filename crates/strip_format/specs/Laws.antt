-- The laws of the format: its steps, its fields, and of heads and records that what is written reads back, that what reads rewrites,
-- that exactly the described bytes are accepted, and each place of refusal; the same of gaps and of whole strips; what all versions
-- read alike; and that what the first bytes settle stays.
pub mod Steps
pub mod Fields
pub mod NoNan
pub mod Heads
pub mod Records
pub mod Refusals
pub mod Gaps
pub mod Versions
pub mod Prefix
pub mod Whole
pub mod Answers
pub mod Outcome
