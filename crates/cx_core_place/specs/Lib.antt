pub mod Steps
pub mod Keys
pub mod Seen
pub mod Skips
