mod Rows
pub mod ScalarLaws
