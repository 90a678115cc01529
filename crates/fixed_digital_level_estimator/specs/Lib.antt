-- The envelope of a frame, what each call of the estimator answers, and what is proved of it.
pub mod Envelope
pub mod Estimator
pub mod Range
pub mod Lanes
pub mod Laws
pub mod Examples
