mod RecordSamples
pub mod WordLaws
pub mod NumberLaws
mod ShortLaws
pub mod RowLaws
pub mod HeadLaws
pub mod GridLaws
pub mod RecordLaws
mod LoopLaws
mod EntryLaws
pub mod SplitLaws
mod PrintedLaws
