pub mod Spelling
pub mod Records
pub mod Reading
pub mod Printed
pub mod Splitting
