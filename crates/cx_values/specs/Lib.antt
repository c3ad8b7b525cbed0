pub mod Spelling
pub mod Naming
pub mod Special
pub mod Faults
pub mod Assigned
pub mod Tables
pub mod Numbers
pub mod Steering
