pub mod Joining
pub mod Showing
pub mod Unique
