-- The theorems that the definitions do not rest on: a definition that breaks one is refused here.
pub mod Short
pub mod Apart
pub mod Published
pub mod Near
