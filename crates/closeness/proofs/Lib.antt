pub mod Positions
pub mod Squares
pub mod Level
pub mod Exchange
pub mod Promises
