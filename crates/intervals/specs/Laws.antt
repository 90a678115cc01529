-- What is true of the definitions beside this file, and of larger, smaller and clamp.
pub mod Choice
pub mod Interval
