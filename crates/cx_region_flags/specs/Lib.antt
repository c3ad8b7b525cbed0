pub mod Agreeing
pub mod AllPaths
pub mod Cells
pub mod Faces
pub mod Rows
pub mod Unmet
