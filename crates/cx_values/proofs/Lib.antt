pub mod Along
pub mod Firsts
pub mod TableLaws
pub mod NameLaws
pub mod GivenLaws
pub mod AssignLaws
pub mod SteerLaws
mod Rows
mod SteerRows
