pub mod SelectionLaws
pub mod VariableLaws
pub mod ParameterLaws
pub mod TableLaws
pub mod SetLaws
pub mod BindLaws
pub mod Samples
pub mod PlaceLaws
pub mod RangeLaws
pub mod HasLaws
pub mod NamedLaws
pub mod FewLaws
mod Rows
