-- What is true of the chain: no part refuses what the chain takes, accepted states pass again, what comes out is of full scale, a gap moves no gain, no call
-- changes the capacity of the rings, and an answer is determined.
pub mod Frames
pub mod Passing
pub mod Start
pub mod Steps
pub mod Calls
pub mod Outcome
pub mod Gaps
pub mod Capacity
