pub mod Turns
pub mod Results
