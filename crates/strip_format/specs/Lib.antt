-- The strip's format: its fields, its head and its record, what reading and writing answer, and the laws of them.
pub mod Fields
pub mod Format
pub mod Calls
pub mod Whole
pub mod Steps
pub mod Laws
