pub mod Weeks
pub mod Firm
pub mod Settled
pub mod Own
pub mod Steps
