pub mod Front
pub mod Refused
