pub mod Parts
pub mod RefLaws
pub mod LineLaws
pub mod BlockLaws
pub mod NodeLaws
pub mod NodeTokens
pub mod BlindLaws
pub mod RefAgain
pub mod LinesAgain
pub mod HeadAgain
pub mod TokenLaws
pub mod BlockAgain
pub mod NodesAgain
pub mod Sees
pub mod LineFits
pub mod FitLaws
pub mod TextLaws
mod Rows
