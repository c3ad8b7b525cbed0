mod Samples
mod Rows
mod ThinRow
pub mod Guides
pub mod TreeGuides
pub mod RunGuides
pub mod StateLaws
pub mod ListLaws
pub mod WalkLaws
pub mod SaveLaws
pub mod StageLaws
pub mod CheckpointLaws
pub mod PointLaws
pub mod NearLaws
pub mod WriteLaws
pub mod TurnLaws
pub mod CellLaws
pub mod ActLaws
pub mod ReadyLaws
pub mod RunLaws
pub mod KeepLaws
pub mod ValueLaws
pub mod CutLaws
pub mod MoreLaws
pub mod CourseGuides
pub mod CourseLaws
pub mod SteerLaws
