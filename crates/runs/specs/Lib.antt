-- Runs of speech frames: the rule of the preliminary and the reliable state, over the threshold and over any kind of state.
pub mod Runs
pub mod Histories
pub mod Laws
