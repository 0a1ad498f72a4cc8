pub mod CoveringLemmas
pub mod DrawingLemmas
pub mod ElementLemmas
pub mod GatheringLemmas
pub mod PictureLemmas
pub mod WritingLemmas
