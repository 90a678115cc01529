-- Figures in eight hexadecimal digits, and the law that what is written is read back.
pub mod Hex
pub mod RoundTrip
