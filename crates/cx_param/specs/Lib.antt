pub mod Ranges
pub mod Numbers
pub mod Blocks
pub mod Headings
pub mod Defaults
pub mod Params
pub mod Printed
