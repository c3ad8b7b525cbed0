pub mod Values
pub mod ParFile
pub mod SteerFile
pub mod Printed
