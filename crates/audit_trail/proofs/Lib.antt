pub mod LegalLemmas
pub mod LineLemmas
pub mod EqualLemmas
pub mod CrossingLemmas
