pub mod Samples
pub mod SampleCalls
