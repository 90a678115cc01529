-- The lines that the program `strip` prints, and what putting one into a lent buffer answers.
pub mod Lines
pub mod Calls
pub mod Laws
