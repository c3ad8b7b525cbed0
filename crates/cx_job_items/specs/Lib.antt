pub mod Matching
pub mod Lookups
pub mod Steered
