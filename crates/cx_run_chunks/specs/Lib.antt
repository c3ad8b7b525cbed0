pub mod Entries
pub mod Next
pub mod Faults
pub mod Commands
pub mod Writing
pub mod Laws
