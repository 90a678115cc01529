-- What is true of the definitions beside this file.
pub mod Steps
pub mod Pieces
pub mod Whole
pub mod Telling
pub mod Outcome
