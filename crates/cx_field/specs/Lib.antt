pub mod Patches
pub mod Zones
pub mod Faces
pub mod Staging
pub mod Sweeps
