pub mod ConfigLemmas
pub mod FileLemmas
pub mod PermitLemmas
pub mod SpellingLaws
pub mod GridLemmas
pub mod WebLemmas
