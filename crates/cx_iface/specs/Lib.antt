pub mod Words
pub mod Attributes
pub mod Groups
pub mod File
pub mod Printed
