pub mod Exact
pub mod Offsets
pub mod Flux
pub mod Gas
pub mod Rows
