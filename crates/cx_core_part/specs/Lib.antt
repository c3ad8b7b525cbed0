pub mod Jobs
pub mod Frames
pub mod Copies
pub mod Items
pub mod Reductions
pub mod Exchanges
pub mod Tests
pub mod Laws
