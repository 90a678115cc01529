-- The gain curve: what it is, what each call answers, and what is proved of it.
pub mod Gain
pub mod Curve
pub mod History
pub mod Laws
pub mod Examples
