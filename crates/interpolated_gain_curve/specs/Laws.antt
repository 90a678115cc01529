-- What is proved of the curve, for every level and every state.
pub mod Knots
pub mod Passes
pub mod Counts
pub mod Range
pub mod Outcome
