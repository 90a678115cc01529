-- The headroom that recent peaks ask for: its state, what each call answers, and what is proved of it.
pub mod Peaks
pub mod Protector
pub mod Calls
pub mod History
pub mod Laws
