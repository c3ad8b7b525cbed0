pub mod PartPoints
pub mod ZoneLaws
pub mod SweptLaws
pub mod NumberLaws
pub mod PartLaws
pub mod FaceLaws
