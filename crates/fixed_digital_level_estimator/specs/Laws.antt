-- What is true of the definitions beside this file.
pub mod Lengths
pub mod Kinds
pub mod Accepted
pub mod Range
pub mod Lanes
pub mod Columns
pub mod Tested
pub mod States
