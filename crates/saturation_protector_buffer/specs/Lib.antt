-- The ring of peaks: what it is over any capacity, what each call answers, and what is proved of it.
pub mod Rings
pub mod Ring
pub mod Calls
pub mod Steps
pub mod History
pub mod Laws
pub mod Examples
