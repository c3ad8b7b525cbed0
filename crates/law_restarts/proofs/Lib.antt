pub mod ListLaws
pub mod FreshLaws
pub mod GivenLaws
pub mod SightLaws
pub mod JobLaws
pub mod StageLaws
pub mod FileLaws
pub mod ChainLaws
pub mod NamedLaws
pub mod RestartLaws
pub mod StopLaws
mod Rows
pub mod SteerKeyLaws
pub mod SteerFileLaws
pub mod SteerStepLaws
pub mod ParamNameLaws
pub mod KeyLineLaws
