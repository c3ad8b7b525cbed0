pub mod Bounds
pub mod Counts
pub mod Running
mod Rows
