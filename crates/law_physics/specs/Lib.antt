pub mod Steps
pub mod Heat
pub mod Gas
pub mod Constant
pub mod HeatRuns
pub mod GasRuns
