pub mod GridLaws
pub mod NoneLaws
pub mod RangeLaws
pub mod InRange
pub mod LimitLaws
pub mod DimLaws
pub mod CellLaws
mod GridRows
