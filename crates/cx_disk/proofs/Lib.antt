pub mod Filling
pub mod Tearing
pub mod Memory
pub mod Moments
pub mod Anew
mod FailingLaws
mod Rows
