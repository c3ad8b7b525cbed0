mod Samples
mod MoreRows
mod LengthLaws
mod EightLaws
