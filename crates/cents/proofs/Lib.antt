pub mod Doubling
pub mod Several
pub mod Bits
pub mod Bounds
pub mod Stretches
pub mod Standing
pub mod Dealing
