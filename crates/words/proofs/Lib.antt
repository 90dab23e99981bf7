pub mod Whole
pub mod Storing
pub mod Digits
