pub mod PlaceLemmas
pub mod BlockLemmas
pub mod RoomLemmas
pub mod RowLemmas
pub mod TableLemmas
pub mod EntryLemmas
pub mod WalkLemmas
pub mod ChangeLemmas
