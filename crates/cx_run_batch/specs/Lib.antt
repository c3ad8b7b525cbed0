pub mod Stages
pub mod Members
pub mod Turns
