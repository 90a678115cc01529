-- What is true of the definitions beside this file.
pub mod Taking
pub mod Numbers
pub mod Products
pub mod Blocks
pub mod FullScale
pub mod Taken
pub mod States
