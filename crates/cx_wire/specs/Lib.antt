pub mod Messages
pub mod Queues
pub mod Received
pub mod Memory
pub mod Failing
pub mod Altering
pub mod Noting
