-- The theorems that the definitions do not rest on: a definition that breaks one is refused here.
pub mod Agree
pub mod Theorems
