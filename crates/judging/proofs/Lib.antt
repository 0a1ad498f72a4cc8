pub mod ListingLemmas
pub mod JudgingLemmas
pub mod AcceptedLemmas
