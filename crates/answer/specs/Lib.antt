pub mod Numbers
pub mod Turns
pub mod Results
pub mod Names
