-- What is proved of the definitions.
pub mod Ways
pub mod Lengths
pub mod Written
pub mod Numbers
