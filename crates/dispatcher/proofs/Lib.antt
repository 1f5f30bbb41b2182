pub mod Zeros
pub mod Lent
pub mod StoredStarts
pub mod Measuring
pub mod Starting
pub mod NextTurns
pub mod Beginning
pub mod Promises
