pub mod Faults
pub mod Posts
pub mod Takes
pub mod Rounds
