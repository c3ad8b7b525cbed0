mod Examples
pub mod RowLaws
pub mod LifeLaws
pub mod LaneLaws
pub mod SheetLaws
pub mod PairLaws
