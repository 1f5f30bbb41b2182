pub mod Replaying
pub mod ImagesJudged
pub mod Promises
