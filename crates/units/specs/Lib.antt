-- The ranges of document 01's figures and settings, and the numbers of its replies. Definitions; what is true of them stands in `Laws`.
pub mod Ranges
pub mod Figures
pub mod Handed
pub mod Settings
pub mod Replies
pub mod Output
pub mod Laws
