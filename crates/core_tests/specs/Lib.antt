pub mod Caps
pub mod Ends
pub mod Parts
