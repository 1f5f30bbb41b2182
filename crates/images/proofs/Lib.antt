pub mod TableLaws
pub mod BodyLaws
pub mod Promises
