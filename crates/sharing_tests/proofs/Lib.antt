mod WeightLaws
mod SampleLaws
