pub mod Afresh
pub mod AgreementLaws
pub mod Appends
pub mod Begins
pub mod Fitting
pub mod Former
pub mod Going
pub mod Naming
pub mod Renewing
pub mod Saves
pub mod Starting
pub mod Stays
pub mod Tested
pub mod Writing
mod Rows
