-- What is true of the definitions beside this file.
pub mod Parts
pub mod Steps
pub mod Ground
pub mod NoTrace
pub mod Calls
pub mod Weighted
pub mod Start
pub mod Ends
pub mod Confidence
pub mod Gaps
pub mod Capacity
pub mod Longest
