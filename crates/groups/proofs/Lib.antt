pub mod Storing
pub mod Placing
pub mod Adding
pub mod Summing
pub mod Members
pub mod Laws
pub mod Same
pub mod Unique
