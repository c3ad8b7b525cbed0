pub mod Boxes
pub mod Grid
pub mod Windows
pub mod Walk
