pub mod Paces
pub mod Events
pub mod Steps
pub mod Flags
pub mod Shows
