-- Laws on lists that the proofs of loops cite, each over elements of any type, and in `Tests` of tests that all have to pass. Definitions stand in `Entries`, and with their laws in `Each` and `Tests`; everything else here is a law.
pub mod Promise
pub mod Stores
pub mod Loops
pub mod Folds
pub mod Entries
pub mod Each
pub mod Tests
pub mod Table
