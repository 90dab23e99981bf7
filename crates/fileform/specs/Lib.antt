pub mod Each
pub mod Form
pub mod Reading
pub mod Writing
pub mod Refused
pub mod Calls
