pub mod Handed
pub mod Statuses
pub mod WireLaws
