pub mod Going
pub mod Works
pub mod Endings
pub mod Sums
