-- A frame of a recording through the chain, and what is proved of it.
pub mod Levelling
pub mod Steps
pub mod Laws
