-- What the functions of this crate answer.
pub mod Choice
pub mod Kinds
pub mod Laws
