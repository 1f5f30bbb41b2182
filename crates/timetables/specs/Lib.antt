pub mod Walks
pub mod Instants
pub mod Entries
pub mod Counted
pub mod Judged
