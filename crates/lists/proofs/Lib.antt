pub mod Sums
pub mod Entries
pub mod Ranks
pub mod Members
pub mod Search
pub mod Unique
