pub mod Input
pub mod Accounts
pub mod Network
pub mod Services
pub mod Filled
pub mod Divided
pub mod Steps
