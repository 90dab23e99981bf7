pub mod Pieces
pub mod Parts
pub mod Unique
