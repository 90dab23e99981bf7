mod Adding
pub mod Fronts
pub mod Blocks
