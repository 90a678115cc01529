-- The laws of the bits of floats.
pub mod RoundTrip
