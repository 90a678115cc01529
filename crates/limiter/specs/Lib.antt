-- The limiter: the factors of a frame, what each call answers, and what is proved of it.
pub mod Factors
pub mod Limiter
pub mod Scale
pub mod Laws
