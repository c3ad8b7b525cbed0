pub mod Grids
pub mod RunNumbers
pub mod Stored
pub mod Ranges
