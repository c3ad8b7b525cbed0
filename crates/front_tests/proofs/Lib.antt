pub mod RegionSampleLaws
