-- What is proved of the definitions.
pub mod Strip
pub mod Wave
pub mod Told
pub mod Answer
pub mod Begun
pub mod Gaps
pub mod Outcome
