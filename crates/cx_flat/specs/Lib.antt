pub mod Code
pub mod Flats
pub mod Ways
pub mod Laws
pub mod Places
