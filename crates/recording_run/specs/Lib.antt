-- What the program `recording` decides between its reads and writes, and what is proved of it.
pub mod Input
pub mod Wave
pub mod Strip
pub mod Levelling
pub mod Rest
pub mod Metering
pub mod Answer
pub mod Laws
