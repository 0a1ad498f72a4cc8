pub mod Zips
pub mod ListEnds
pub mod VisitLemmas
pub mod UnionLemmas
pub mod PenaltyLemmas
pub mod StandingLemmas
pub mod Sharing
pub mod Adoptions
