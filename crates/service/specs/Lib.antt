pub mod Service
pub mod Turn
pub mod Lists
pub mod Steps
