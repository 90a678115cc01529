-- A strip that comes in pieces: its reader, and that what comes out is what the whole strip has, however it is cut.
pub mod Reader
pub mod Feeding
pub mod Telling
pub mod Laws
