pub mod Texts
pub mod Alone
pub mod Routines
pub mod HeatRoutines
pub mod GasRoutines
pub mod Named
