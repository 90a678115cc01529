-- The states that a caller in another language keeps, what each call answers, and what is proved of it.
pub mod Version
pub mod States
pub mod Calls
pub mod Laws
