pub mod AddLaws
pub mod ChooseLaws
pub mod CutLaws
pub mod SumLaws
pub mod WalkLaws
pub mod PlaneLaws
pub mod PlaneSums
pub mod WeightLaws
pub mod OwnLaws
mod Rows
