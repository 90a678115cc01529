-- What is proved of the definitions.
pub mod Sound
pub mod Metering
