pub mod Allowed
pub mod SetRead
pub mod Frames
