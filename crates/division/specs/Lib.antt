pub mod Limits
pub mod Shares
pub mod Refused
