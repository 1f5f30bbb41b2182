pub mod Puts
pub mod ImagePut
pub mod Promises
