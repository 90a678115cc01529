-- What is proved of the definitions: what is kept comes back, a step or a gap is that of the limiter or the chain inside, a refused one changes nothing, what is
-- made passes, as it does after each step and gap, no call changes the capacity of the rings, and what is told of an answer determines it.
pub mod States
pub mod Calls
pub mod Passing
pub mod Gaps
pub mod Capacity
pub mod Outcome
