pub mod ReachLaws
pub mod EdgeLaws
pub mod ClosureLaws
pub mod NameLaws
pub mod SuffixLaws
pub mod StoredLaws
mod Rows
pub mod ChainLaws
pub mod SameLaws
pub mod LinkLaws
