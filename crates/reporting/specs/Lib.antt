pub mod Report
pub mod Turns
