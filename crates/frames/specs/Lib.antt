-- A frame's shape, its samples, the walk over its channels, and what is done in blocks.
pub mod Shape
pub mod Samples
pub mod Squares
pub mod Refusal
pub mod Parts
pub mod Facts
pub mod Walk
pub mod Blocks
