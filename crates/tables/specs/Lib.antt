pub mod Shape
pub mod Heads
pub mod Columns
pub mod Counts
