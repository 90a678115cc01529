-- What is true of the definitions beside this file.
pub mod Tests
pub mod Oldest
pub mod Rings
pub mod Frames
pub mod Nan
pub mod Range
pub mod Levels
pub mod Passing
pub mod Capacity
pub mod Again
pub mod Pushes
pub mod Outcome
