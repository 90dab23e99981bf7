pub mod Charging
pub mod Serving
pub mod Laws
pub mod Splits
pub mod Turns
pub mod Same
pub mod Unique
pub mod Promises
