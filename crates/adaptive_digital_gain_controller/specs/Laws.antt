-- What is true of the controller: where its target, its gain and its factor lie, that accepted states pass again, and what it hands on.
pub mod Boxes
pub mod Target
pub mod Change
pub mod Factor
pub mod States
pub mod Waiting
pub mod Calls
pub mod Outcome
pub mod Gaps
