pub mod StoreLemmas
pub mod FeatureLemmas
pub mod ChangeLemmas
pub mod PolicyLemmas
pub mod RecordLemmas
pub mod RestLemmas
pub mod ReadingLemmas
