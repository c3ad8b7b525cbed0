pub mod Volumes
pub mod Single
mod Examples
pub mod PartPoints
pub mod ZoneLaws
pub mod SweepLaws
pub mod SweptLaws
pub mod ScalarLaws
pub mod NumberLaws
pub mod PartLaws
pub mod BufferLaws
pub mod OneNumber
pub mod FillLaws
pub mod FaceLaws
pub mod WindowLaws
pub mod StageLaws
pub mod CommitLaws
pub mod PointLaws
pub mod CommitSteps
pub mod PutLaws
mod SkipLaws
pub mod RunLaws
pub mod RowLaws
pub mod AlongLaws
pub mod RowSweeps
pub mod RowSteps
pub mod RunEnds
pub mod OpenLaws
pub mod AfterLaws
pub mod CountedLaws
mod ByteLaws
pub mod CutParts
