pub mod Judgement
pub mod Good
pub mod Refused
