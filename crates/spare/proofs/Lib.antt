pub mod Slots
pub mod Taking
pub mod Backwards
pub mod Stepping
pub mod Counting
pub mod Capacities
pub mod Filling
