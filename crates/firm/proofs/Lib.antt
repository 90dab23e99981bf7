mod Highest
mod Weeks
mod Taking
mod Own
mod Bounds
mod Costing
mod Settling
pub mod Promises
pub mod Unique
