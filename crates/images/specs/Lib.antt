pub mod Table
pub mod Bodies
