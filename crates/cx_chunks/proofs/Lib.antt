mod ChunkSamples
pub mod PieceLaws
pub mod OwnLaws
pub mod StepLaws
pub mod TextLaws
pub mod JoinLaws
pub mod RisingLaws
pub mod PieceLists
pub mod ReadLaws
pub mod GroupLaws
pub mod WholeLaws
pub mod RowPlaces
pub mod FindLaws
pub mod TurnLaws
pub mod RowTexts
pub mod RunLaws
pub mod SetLaws
