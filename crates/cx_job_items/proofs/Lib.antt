pub mod AllLaws
pub mod MatchLaws
pub mod OnlyMatched
mod MatchRows
