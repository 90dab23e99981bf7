pub mod Looks
mod KeyColumns
