-- The chain over histories: what they are, which frames of them count, and the theorems on them.
pub mod Histories
pub mod Held
pub mod Changes
pub mod Longest
pub mod Average
pub mod Laws
