mod NumberLaws
pub mod WalkLaws
pub mod RecordLaws
mod RecordSamples
