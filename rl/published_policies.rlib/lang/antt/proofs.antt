pub mod ListLemmas
pub mod GrowingLemmas
pub mod CopyLemmas
pub mod CrossingLemmas
pub mod LawLemmas
