pub mod Stored
pub mod Tested
pub mod States
pub mod Turns
