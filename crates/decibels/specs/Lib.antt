-- The rule by which a gain in dB becomes a ratio, and what is proved of it.
pub mod Ratio
pub mod Nearest
pub mod Laws
pub mod Examples
