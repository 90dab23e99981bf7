pub mod LineWalks
pub mod Judging
pub mod Filling
pub mod Rooms
pub mod Parts
pub mod Unique
