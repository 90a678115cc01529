-- What is true of the definitions beside this file, of a ring of any capacity.
pub mod Places
pub mod Front
pub mod Pushes
pub mod Passing
pub mod History
pub mod Capacity
pub mod Beyond
pub mod Same
pub mod Outcome
