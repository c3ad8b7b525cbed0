pub mod Files
pub mod Summaries
