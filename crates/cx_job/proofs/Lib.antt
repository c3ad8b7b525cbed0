pub mod LineLaws
mod LocalCellLaws
pub mod CapLaws
mod KeyRows
pub mod OnlyMade
pub mod OnlyJob
pub mod OutputLaws
mod OutputRows
pub mod WrittenLaws
pub mod WeightLaws
mod WeightRows
pub mod StoredLaws
pub mod SupportedLaws
pub mod PlanFacts
pub mod RunLaws
pub mod MatchedLaws
pub mod TouchLaws
pub mod SteerLaws
pub mod WholeJobs
pub mod FitLaws
pub mod KeyNameLaws
pub mod TreeLaws
pub mod MeantLaws
pub mod NamesLaws
pub mod MakingLaws
pub mod ReadyLaws
pub mod CountLaws
