pub mod GoingOnLemmas
pub mod LeavingLemmas
pub mod LineLemmas
pub mod StreamLemmas
