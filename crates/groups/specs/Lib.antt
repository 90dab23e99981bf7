pub mod Columns
pub mod Groups
pub mod Lists
pub mod Steps
