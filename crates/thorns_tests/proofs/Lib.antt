mod TestedSpecs
mod TrialLaws
