mod Totals
mod GridTotals
mod Rings
mod Turns
mod Seen
mod HeatLaws
mod GasLaws
pub mod Walks
mod LevelLaws
pub mod Outputs
mod RunTurns
pub mod HeatRuns
pub mod GasRuns
