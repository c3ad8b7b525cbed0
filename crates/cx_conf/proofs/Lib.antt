pub mod ConfLaws
pub mod PrintLaws
pub mod FitLaws
pub mod TextLaws
pub mod ThornLaws
pub mod Rows
