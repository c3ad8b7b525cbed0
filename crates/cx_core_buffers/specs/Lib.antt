pub mod Checkpoints
pub mod Gathering
pub mod Pieces
pub mod Rows
pub mod Filling
pub mod Boards
