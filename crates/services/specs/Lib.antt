pub mod Settled
pub mod Steps
