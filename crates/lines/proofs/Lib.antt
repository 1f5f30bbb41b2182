pub mod TextLengths
pub mod Standing
pub mod Listing
pub mod Rebuilt
pub mod Promises
