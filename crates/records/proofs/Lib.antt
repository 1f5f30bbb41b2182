pub mod OwnRules
pub mod RecordsRead
pub mod RecordsJudged
pub mod OffsetsTold
pub mod Promises
