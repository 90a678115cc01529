-- What is true of the definitions beside this file.
pub mod Exactly
pub mod Facts
pub mod Near
pub mod Figures
pub mod Advance
pub mod Level
pub mod Again
pub mod Short
pub mod Gaps
