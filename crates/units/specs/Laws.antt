-- What is true of the definitions beside this file.
pub mod Replies
pub mod Handed
