pub mod RegionSamples
