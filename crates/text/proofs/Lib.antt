pub mod Numbers
pub mod Below
pub mod Lines
pub mod Stores
pub mod Places
pub mod Pieces
pub mod Readers
pub mod Unique
