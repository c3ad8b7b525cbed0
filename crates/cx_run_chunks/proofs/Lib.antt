pub mod EntryLaws
pub mod CountLaws
pub mod LoopLaws
pub mod WriteLaws
pub mod CauseLaws
pub mod OutputLaws
pub mod TakeLaws
pub mod CombineLaws
