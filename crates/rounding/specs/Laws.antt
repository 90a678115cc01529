-- What is true of the definitions beside this file.
pub mod Rnd
pub mod Whole
pub mod Operations
pub mod Order
pub mod Same
pub mod Between
pub mod Exact
pub mod Gaps
pub mod Loops
