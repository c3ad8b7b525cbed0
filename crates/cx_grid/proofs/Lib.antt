pub mod Places
pub mod Points
pub mod Following
pub mod Interior
pub mod Reaching
pub mod Remainders
pub mod WrapLaws
mod Examples
