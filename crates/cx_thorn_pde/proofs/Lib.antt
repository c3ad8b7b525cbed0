pub mod Ranges
pub mod Pairs
pub mod RowLaws
pub mod NearLaws
pub mod EdgeLaws
mod Examples
