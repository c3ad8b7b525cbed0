pub mod KeyLaws
pub mod FitLaws
pub mod RunLaws
pub mod StepLaws
pub mod BeginLaws
pub mod OpenLaws
