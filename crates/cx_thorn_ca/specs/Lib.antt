pub mod Automaton
pub mod Lanes
pub mod Life
pub mod Rows
