pub mod NamesLaws
pub mod TreeLaws
pub mod TendedLaws
pub mod ReadyLaws
pub mod PlacedLaws
pub mod KeptLaws
pub mod MemoryLaws
pub mod CauseLaws
