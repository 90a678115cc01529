-- The level of the speech: the average, the estimator's state, what each call answers, and what is proved of it.
pub mod Average
pub mod Estimator
pub mod Calls
pub mod Held
pub mod Histories
pub mod Laws
