-- What is true of the definitions beside this file.
pub mod Split
pub mod Tables
pub mod Bound
