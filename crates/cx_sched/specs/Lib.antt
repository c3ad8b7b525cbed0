pub mod Words
pub mod Refs
pub mod Lines
pub mod Blocks
pub mod Nodes
pub mod Printed
