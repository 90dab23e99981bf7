pub mod Places
pub mod Passing
pub mod Tests
pub mod Stages
pub mod Unique
