pub mod FilledSlots
pub mod StoredNumbers
pub mod StateNumbers
pub mod SetNumbers
