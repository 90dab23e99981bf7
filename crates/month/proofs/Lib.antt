pub mod Months
pub mod Calendar
pub mod Quantities
pub mod Promises
pub mod Unique
