pub mod Lent
pub mod Runs
pub mod Feeding
