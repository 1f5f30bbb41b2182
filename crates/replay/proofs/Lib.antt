pub mod Stores
pub mod Running
pub mod Walk
pub mod Cycles
pub mod Promises
