-- What is true of the definitions beside this file.
pub mod Spelling
pub mod Cutting
pub mod Putting
pub mod Letters
pub mod Ends
