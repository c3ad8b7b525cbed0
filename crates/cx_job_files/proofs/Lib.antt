pub mod Settled
pub mod Named
pub mod ReadingLaws
pub mod OnlyFiles
pub mod ConfiguringLaws
pub mod WordLaws
pub mod ReadNames
pub mod SteerLaws
