pub mod Settings
pub mod Chains
pub mod Restarts
pub mod Stops
