pub mod Pieces
pub mod Sides
pub mod RoundLaws
pub mod PostLaws
pub mod TakeLaws
