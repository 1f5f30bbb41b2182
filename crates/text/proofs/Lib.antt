pub mod Decimal
pub mod TextPuts
pub mod Signed
pub mod Lengths
pub mod Promises
