-- What is true of the definitions beside this file.
pub mod Room
pub mod Cutting
pub mod Reply
pub mod Versions
pub mod Gaps
pub mod Carried
pub mod Outcome
