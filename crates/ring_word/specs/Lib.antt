-- The words of a command that say how many peaks the protector remembers.
pub mod Words
pub mod Examples
