-- The gain of a frame: its target, its change, the controller's state, what each call answers, and what is proved of it.
pub mod Target
pub mod Change
pub mod Controller
pub mod Calls
pub mod Range
pub mod Laws
