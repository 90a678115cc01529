-- What is true of the applier: accepted states pass again, the ramp's gains keep their range, and so do the samples; and what the code does in blocks is done to all.
pub mod Blocks
pub mod Inverse
pub mod Again
pub mod Ramp
pub mod Sound
