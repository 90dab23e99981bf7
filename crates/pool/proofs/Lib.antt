mod Filling
pub mod Crediting
pub mod Parts
pub mod Unique
