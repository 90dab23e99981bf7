pub mod Heights
pub mod Verdicts
pub mod Reasons
pub mod Sayings
pub mod Passing
pub mod Laws
pub mod Unique
pub mod Promises
