pub mod Replayed
pub mod Judged
