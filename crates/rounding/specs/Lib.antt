-- f32 as whole units: what each operation rounds to, and between which numbers.
pub mod Units
pub mod Loops
pub mod Laws
