pub mod Fragments
pub mod Promises
