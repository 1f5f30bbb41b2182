pub mod Differences
pub mod Walking
pub mod Putting
pub mod Rebuilt
pub mod Measuring
pub mod Answers
