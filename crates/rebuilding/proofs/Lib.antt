pub mod Rebuilding
pub mod Putting
pub mod Promises
pub mod Demand2
