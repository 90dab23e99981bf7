mod Refusals
pub mod Outcomes
mod Turning
mod Keeping
mod Rulings
pub mod Judging
pub mod Reasons
pub mod Ascents
pub mod Promises
pub mod Unique
