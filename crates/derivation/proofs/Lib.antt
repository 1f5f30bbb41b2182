pub mod ByTask
pub mod Parts
pub mod TablesPut
pub mod ImagePut
pub mod ValidEntries
pub mod Putting
pub mod Deriving
pub mod Promises
