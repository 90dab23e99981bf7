pub mod Calls
pub mod Reading
pub mod Judged
pub mod Stating
pub mod Promises
pub mod Unique
