pub mod Starred
pub mod SettledMonths
pub mod MonthFiles
pub mod Statements
