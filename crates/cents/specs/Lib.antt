pub mod Dealt
pub mod Steps
