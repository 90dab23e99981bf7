pub mod Lines
pub mod Calls
pub mod Steps
pub mod Listings
