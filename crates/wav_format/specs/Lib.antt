-- A WAV file of 16-bit samples: its bytes, its head and its samples, and what is proved of them.
pub mod Bytes
pub mod Head
pub mod Samples
pub mod Steps
pub mod Laws
