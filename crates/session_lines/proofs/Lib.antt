pub mod CrossingLemmas
pub mod DeskLemmas
pub mod WritingLemmas
pub mod ServingLemmas
