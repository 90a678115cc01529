-- How loud 10 ms of sound are, in whole numbers, the bytes that tell it, and what is proved of them.
pub mod Sound
pub mod Metering
pub mod Laws
