pub mod PrefixLemmas
pub mod DecodingLemmas
