-- A gain on a frame of sound, what each call of the applier answers, and what is proved of it.
pub mod Sound
pub mod Gains
pub mod Applier
pub mod Range
pub mod Laws
pub mod Examples
