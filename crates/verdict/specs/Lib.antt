pub mod Check
pub mod Refused
pub mod Steps
