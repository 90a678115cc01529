-- What is proved of the definitions.
pub mod Bytes
pub mod Fours
pub mod Head
pub mod Samples
pub mod Rounds
pub mod Back
