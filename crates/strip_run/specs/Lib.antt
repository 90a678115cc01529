-- A strip run through a new chain, and the lines that it prints: what they are, what a run over blocks prints, and that the two are the same.
pub mod Lines
pub mod Run
pub mod Laws
