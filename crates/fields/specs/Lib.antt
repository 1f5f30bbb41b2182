pub mod Number
pub mod Body
