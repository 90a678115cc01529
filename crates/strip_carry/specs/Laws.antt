-- The laws of carrying: that what is put out has room; that what was tallied of a strip is what is told of it whole, however the strip is cut into blocks;
-- what of a strip that was read a version can say; how long strips are; and the theorems: what is carried reads back, there and back gives the same bytes,
-- exactly which strips are carried, and what is refused first; and that each promise that speaks through `Seen` leaves one outcome.
pub mod Room
pub mod Tally
pub mod Cutting
pub mod Said
pub mod Sizes
pub mod Theorems
pub mod Outcome
