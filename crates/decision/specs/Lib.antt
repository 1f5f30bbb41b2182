pub mod Fits
pub mod Shown
pub mod Waiting
pub mod Next
