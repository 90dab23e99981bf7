pub mod Bytes
pub mod Numbers
pub mod Lines
pub mod Places
pub mod Readers
