pub mod Shelf
pub mod Failing
pub mod Stages
pub mod Reading
pub mod NamesAndLevels
pub mod Configuring
