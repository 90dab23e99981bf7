mod Serving
pub mod Unique
