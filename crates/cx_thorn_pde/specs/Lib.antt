pub mod Exact
pub mod Around
pub mod Start
pub mod Wave
pub mod Heat
pub mod Control
pub mod Rows
pub mod Near
