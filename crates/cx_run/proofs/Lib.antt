pub mod Fronts
pub mod Ends
pub mod Totals
pub mod Stillness
pub mod ChunkLaws
pub mod Running
pub mod Asked
pub mod MadeLaws
pub mod Clauses
pub mod TurnLaws
pub mod Readings
mod FaultRows
mod CallRows
mod CutRows
