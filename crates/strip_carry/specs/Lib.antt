-- A strip carried to the other version: whole, and in blocks.
pub mod Carry
pub mod Run
pub mod Seen
pub mod Laws
