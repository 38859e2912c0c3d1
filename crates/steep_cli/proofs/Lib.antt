pub mod OnlyLists
pub mod OnlyOutcomes
