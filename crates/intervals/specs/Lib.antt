-- In which box the result of f32 operations lies, where each operand lies in a box of its own.
pub mod Interval
pub mod Laws
